-- What holds of the order of cells, of pairs and of stores.
use Rattle.std.specs.Prelude.{◌≡◌, ℕ, ◌+◌, ◌++◌, [], take, slice_get, Some, None, unwrap_or}
use Rattle.std.specs.Option.{option_or}
use Rattle.std.specs.declared.cmp.Ordering.TheVariants.{Equal}
use Rattle.std.specs.Cmp.{IsTotalOrder}
use Rattle.ecf_lang.specs.declared.cell.Cell.{Cell}
use Rattle.ecf_lang.specs.declared.typed.Typed.{Typed}
use Rattle.ecf_lang.specs.Store.{Store, Cells, IsRising, IsStore, cell_cmp, find_cell, read, set, put, with_writes}
use Rattle.ecf_lang.specs.Genesis.{genesis}
use Rattle.ecf_stores.specs.Pairs.{remove_cell, put_back, ChangesFind, ChangesRead, AreBelow, AreAbove}

-- of any two cells one is below the other, or they compare equal
abbrev pub CellOrderIsTotal : Type 0
CellOrderIsTotal = IsTotalOrder cell_cmp

-- cells that compare equal are one
abbrev pub CellOrderIsExact : Type 0
CellOrderIsExact = (a b : Cell) → cell_cmp a b ≡ Equal → a ≡ b

-- pairs that rise still do once a cell is set
abbrev pub SetKeepsRising : Type 0
SetKeepsRising = (pairs : Cells) (cell : Cell) (value : ℕ) → IsRising pairs → IsRising (set pairs cell value)

-- pairs that rise still do without a cell
abbrev pub RemovalKeepsRising : Type 0
RemovalKeepsRising = (pairs : Cells) (cell : Cell) → IsRising pairs → IsRising (remove_cell pairs cell)

-- what is found once a cell is set
abbrev pub FindAfterSet : Type 0
FindAfterSet = (pairs : Cells) (cell : Cell) (value : ℕ) → ChangesFind pairs (set pairs cell value) cell (Some value)

-- what is found without a cell
abbrev pub FindAfterRemoval : Type 0
FindAfterRemoval = (pairs : Cells) (cell : Cell) → IsRising pairs → ChangesFind pairs (remove_cell pairs cell) cell None

-- a cell that was set is put back as it was found before
abbrev pub PutBackUndoesSet : Type 0
PutBackUndoesSet = (pairs : Cells) (cell : Cell) (value : ℕ) → IsRising pairs → put_back (set pairs cell value) cell (find_cell pairs cell) ≡ pairs

-- rising pairs in which each cell is found alike are one
abbrev pub SameFindsSamePairs : Type 0
SameFindsSamePairs = (a b : Cells) → IsRising a → IsRising b → ((cell : Cell) → find_cell a cell ≡ find_cell b cell) → a ≡ b

-- a store after a write is a store
abbrev pub PutKeepsStore : Type 0
PutKeepsStore = (store : Store) (cell : Cell) (value : ℕ) → IsStore store → IsStore (put store cell value)

-- what is read after a write
abbrev pub ReadAfterPut : Type 0
ReadAfterPut = (store : Store) (cell : Cell) (value : ℕ) → IsStore store → ChangesRead store (put store cell value) cell value

-- the empty store is one
abbrev pub EmptyIsStore : Type 0
EmptyIsStore = IsStore []

-- a store after writes is a store
abbrev pub WritesKeepStore : Type 0
WritesKeepStore = (store : Store) (writes : Cells) → IsStore store → IsStore (with_writes store writes)

-- writes after others go on with the store that those leave
abbrev pub WritesGoOn : Type 0
WritesGoOn = (store : Store) (first others : Cells) → with_writes store (first ++ others) ≡ with_writes (with_writes store first) others

-- one write more is a put
abbrev pub OneMoreWriteIsPut : Type 0
OneMoreWriteIsPut = (store : Store) (writes : Cells) (i : ℕ) (write : Cell × ℕ) → slice_get writes i ≡ Some write →
    with_writes store (take (i + 1) writes) ≡ put (with_writes store (take i writes)) write.0 write.1

-- after rising writes a cell reads what was written into it, and else what it read before
abbrev pub ReadAfterWrites : Type 0
ReadAfterWrites = (store : Store) (writes : Cells) (cell : Cell) → IsStore store → IsRising writes →
    read (with_writes store writes) cell ≡ unwrap_or (find_cell writes cell) (read store cell)

-- stores in which each cell reads alike are one
abbrev pub SameReadsSameStore : Type 0
SameReadsSameStore = (a b : Store) → IsStore a → IsStore b → ((cell : Cell) → read a cell ≡ read b cell) → a ≡ b

-- a contract's store before its first transaction is a store
abbrev pub GenesisIsStore : Type 0
GenesisIsStore = (typed : Typed) → IsStore (genesis typed)

-- a cell is found in the first of two parts that has it
abbrev pub FindInParts : Type 0
FindInParts = (front back : Cells) (cell : Cell) → find_cell (front ++ back) cell ≡ option_or (find_cell front cell) (find_cell back cell)

-- a cell above all of the front part is found in the back part
abbrev pub FindBehindFront : Type 0
FindBehindFront = (front back : Cells) (cell : Cell) → AreBelow front cell → find_cell (front ++ back) cell ≡ find_cell back cell

-- a cell below all of the back part is found in the front part
abbrev pub FindBeforeBack : Type 0
FindBeforeBack = (front back : Cells) (cell : Cell) → AreAbove back cell → find_cell (front ++ back) cell ≡ find_cell front cell

-- a write of a cell above all of the front part is one into the back part
abbrev pub PutBehindFront : Type 0
PutBehindFront = (front back : Cells) (cell : Cell) (value : ℕ) → AreBelow front cell → put (front ++ back) cell value ≡ front ++ put back cell value

-- a write of a cell below all of the back part is one into the front part
abbrev pub PutBeforeBack : Type 0
PutBeforeBack = (front back : Cells) (cell : Cell) (value : ℕ) → AreAbove back cell → put (front ++ back) cell value ≡ put front cell value ++ back
