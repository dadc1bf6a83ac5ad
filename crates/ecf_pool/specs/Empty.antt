-- A contract without objects, and no transactions.
use Rattle.std.specs.Prelude.{[]}
use Rattle.ecf_book.specs.declared.setup.Setup.{Setup}

abbrev pub empty_setup : Setup
empty_setup = record { typed = record { objects = []; names = []; signatures = [] }; txs = [] }
