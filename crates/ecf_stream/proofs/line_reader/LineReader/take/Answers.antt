use Rattle.std.proofs.Common.{◌≡◌, ◌<◌, ◌≤◌, ◌+◌, ◌++◌, List, ℕ, Bool, false, None, length, sym, subst, ap, ◌∙◌, refl, arith, length-append}
use Rattle.std.specs.Prelude.{All, nat_lt}
use Rattle.std.specs.Vec.{vec_len, vec_capacity}
use Rattle.ecf_lines.specs.Stream.{is_lf, limit_passed}
use Rattle.ecf_stream.specs.LineReader.{line_state}
use Rattle.ecf_stream.proofs.FeedLaws.{limits_kept, within_more, plain_part}
use Rattle.ecf_stream.proofs.line_reader.LineReader.take.Goals as goal

pub unreachable-requires : goal.unreachable-requires
unreachable-requires c =
    let line = c.self.inside.line.items in
    let part = c.part_of-part.result.now in
    let count : length (line ++ part) ≡ c.len.result + length part = let whole : length line ≡ c.len.result = omega arith in length-append line part ∙ ap (λ n. n + length part) whole in
    let kept = limits_kept c.self.inside.most_line c.self.inside.most_bytes c.self.inside.bytes (nat_lt (length part) (length c.args.piece.now)) (line ++ part) (c.in-None.ensures (line ++ part) count) in
    let few : length (line ++ part) ≤ c.self.inside.most_line = kept.0 in
    let room : c.self.inside.most_line ≤ vec_capacity c.self.inside.line = c.self.invariant.1 in
    let full : vec_capacity c.self.inside.line < vec_len c.self.inside.line + length part = c.in_default.ensures.full in
    let same : c.len.result ≡ vec_len c.self.inside.line = c.len.ensures in
    omega (arith, few, room, full, same, count)

pub invariant_of-self-in-None : goal.invariant_of-self-in-None
invariant_of-self-in-None c =
    let line = c.self.inside.line.items in
    let part = c.part_of-part.result.now in
    let count : length (line ++ part) ≡ c.len.result + length part = let whole : length line ≡ c.len.result = omega arith in length-append line part ∙ ap (λ n. n + length part) whole in
    let plain : All (λ byte. is_lf byte ≡ false) part = subst (All (λ byte. is_lf byte ≡ false)) (sym c.part_of-part.ensures) (plain_part c.args.piece.now) in
    let room : c.self.inside.most_line ≤ vec_capacity c.self.inside.line = c.self.invariant.1 in
    let more : vec_capacity c.self.inside.line ≤ vec_capacity c.extend_from_slice.new.self = c.in-Ok.ensures.capacity in
    (within_more (line_state c.self.inside) (line_state (record c.self.inside { line = c.extend_from_slice.new.self; is_whole = nat_lt (length part) (length c.args.piece.now) })) part c.self.invariant.0 refl refl refl refl c.in-Ok.ensures.items plain (c.in-None.ensures (line ++ part) count), omega (arith, room, more))

pub returns-after-is_ended-clause-within : goal.returns-after-is_ended-clause-within
returns-after-is_ended-clause-within c =
    let line = c.self.inside.line.items in
    let part = c.part_of-part.result.now in
    let count : length (line ++ part) ≡ c.len.result + length part = let whole : length line ≡ c.len.result = omega arith in length-append line part ∙ ap (λ n. n + length part) whole in
    let plain : All (λ byte. is_lf byte ≡ false) part = subst (All (λ byte. is_lf byte ≡ false)) (sym c.part_of-part.ensures) (plain_part c.args.piece.now) in
    within_more (line_state c.self.inside) (line_state (record c.self.inside { line = c.extend_from_slice.new.self; is_whole = nat_lt (length part) (length c.args.piece.now) })) part c.self.invariant.0 refl refl refl refl c.in-Ok.ensures.items plain (c.in-None.ensures (line ++ part) count)
