-- Contracts whose objects and fields have numbers.
use Rattle.std.specs.Prelude.{◌≤◌, length, All}
use Rattle.ecf_lang.specs.declared.limits.TheConstants.{MAX_OBJECTS, MAX_FIELDS}
use Rattle.ecf_lang.specs.declared.typed.Typed.{Typed}

-- there are no more objects, and no more fields and maps in one, than a cell can number
pub record IsWithinLimits (typed : Typed) : Type 0 where
  pub few_objects : length typed.objects ≤ MAX_OBJECTS
  pub few_fields : All (λ object. length object.fields ≤ MAX_FIELDS) typed.objects
