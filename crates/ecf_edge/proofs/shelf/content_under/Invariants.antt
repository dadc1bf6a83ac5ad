use Rattle.std.proofs.Common.{◌≡◌, drop}
use Rattle.ecf_edge.specs.Shelf.{files_of, content_of}
use Rattle.ecf_edge.proofs.shelf.content_under.Given as goal

abbrev pub invariant-loop-file : goal.invariant-loop-file
invariant-loop-file l = content_of (files_of l.files) l.name ≡ content_of (files_of (drop l.file-index l.files)) l.name
