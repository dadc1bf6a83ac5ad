use Rattle.std.proofs.Common.{◌≡◌, ◌++◌, length, map}
use Rattle.std.specs.Option.{option_map}
use Rattle.ecf_lines.specs.Line.{values_of}
use Rattle.ecf_stream.proofs.line.values_of.Given as goal

-- the values so far, and those of the words that are left
abbrev pub invariant-loop-ty : goal.invariant-loop-ty
invariant-loop-ty l = record {
  values : values_of l.typed l.params (map (λ w. w.now) l.words) ≡ option_map (λ more. l.values.items ++ more) (values_of l.typed l.ty-iterator.a.rest.now (map (λ w. w.now) l.ty-iterator.b.rest.now));
  lengths : length l.ty-iterator.a.rest.now ≡ length l.ty-iterator.b.rest.now;
}
