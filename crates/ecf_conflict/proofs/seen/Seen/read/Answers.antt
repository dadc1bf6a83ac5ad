use Rattle.std.proofs.Common.{◌≡◌, ◌<◌, ◌≤◌, ℕ, arith, ◌∙◌, length, get_or, List, []}
use Rattle.std.proofs.lemmas.List.{get_or_default}
use Rattle.ecf_verdicts.specs.Conflicts.{same_cell}
use Rattle.ecf_conflict.specs.Numbering.{cell_number, IsPutIn}
use Rattle.ecf_conflict.proofs.SeenLaws.{reads_one}
use Rattle.ecf_conflict.proofs.seen.Seen.read.Goals as goal

-- what is read at a place, whatever the default
get_or_as : (xs : List (List ℕ)) (k : ℕ) (x : List ℕ) → k < length xs → x ≡ get_or xs k x → x ≡ get_or xs k []
get_or_as xs k x h e = e ∙ get_or_default xs k x [] h

pub returns : goal.returns
unfolding same_cell cell_number
returns c t h =
    let s = c.args.step.now in
    let keys = c.number_cell.new.cells.keys in
    let put : IsPutIn c.args.self.now.cells.keys keys s.cell = c.in_ok-cell.ensures.put in
    let place : c.in_ok-cell.cell ≡ cell_number c.args.self.now.cells.keys s.cell = c.in_ok-cell.ensures.number in
    let longer : length c.args.self.now.cells.keys ≤ length keys = put.longer in
    let taken : c.in_ok-cell.cell < length keys = rw place put.place in
    let few_t = h.touched_few in
    let few_w = h.written_few in
    let long_t : length c.extend_rows.new.rows.items ≡ length keys = grind arith in
    let long_w : length c.extend_rows-2.new.rows.items ≡ length keys = grind arith in
    let long_e : c.args.step.now.inv < length c.extend_rows-3.new.rows.items = grind arith in
    let in_t : c.in_ok-cell.cell < length c.extend_rows.new.rows.items = omega (arith, taken, long_t) in
    let in_w : c.in_ok-cell.cell < length c.extend_rows-2.new.rows.items = omega (arith, taken, long_w) in
    reads_one c.one_step_more.ensures t s c.args.self.now.cells.keys keys c.args.self.now.touched.items c.args.self.now.written.items c.args.self.now.earlier.items
    c.extend_rows.new.rows.items c.extend_rows-2.new.rows.items c.extend_rows-3.new.rows.items c.in_ok-cell.cell
    c.index_mut.result.now c.index_mut-2.result.now c.index_mut-3.result.now c.put_step.new.earlier c.put_step.new.touched c.put_step.new.written
    h put place c.in_ok-extend_rows.ensures.same c.in_ok-extend_rows-2.ensures.same c.in_ok-extend_rows-3.ensures.same
    in_t in_w long_e (omega (arith, long_t)) (omega (arith, long_w)) (get_or_as _ _ _ long_e c.index_mut.ensures.value) (get_or_as _ _ _ in_t c.index_mut-2.ensures.value) (get_or_as _ _ _ in_w c.index_mut-3.ensures.value) c.in_ok-put_step.ensures
