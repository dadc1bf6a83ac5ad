-- The verdicts on the small traces, by computation.
use Rattle.std.proofs.Common.{refl}
use Rattle.ecf_verdicts.specs.Cases.{TwoReaders, first_reader_again, FirstReaderAgain, two_objects, TwoObjects, two_cycles, TwoCycles, start_outside, StartOutside}
use Rattle.ecf_verdicts.specs.Computing.{computing}
use Rattle.ecf_verdicts.specs.Traces.{trace}
use Rattle.ecf_verdicts.proofs.AtLaws.{not_free}

pub two_readers_case : TwoReaders
unfolding computing
two_readers_case = refl

pub first_reader_again_case : FirstReaderAgain
unfolding computing
first_reader_again_case = (refl, not_free (trace first_reader_again 0) refl)

pub two_objects_case : TwoObjects
unfolding computing
two_objects_case = (refl, not_free (trace two_objects 0) refl, not_free (trace two_objects 1) refl)

pub two_cycles_case : TwoCycles
unfolding computing
two_cycles_case = (refl, not_free (trace two_cycles 0) refl)

pub start_outside_case : StartOutside
unfolding computing
start_outside_case = (refl, not_free (trace start_outside 0) refl)
