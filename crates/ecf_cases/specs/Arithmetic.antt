-- Sums and products, from left to right.
use Rattle.std.specs.Prelude.{◌≡◌, [], ◌∷◌, List, Some}
use Rattle.ecf_cases.specs.Words.{contract, signature, object, num_field, with_first, method, num, local, field, sum, product, plus, minus, times, returns, transaction, tx_call, invocation}
use Rattle.ecf_lang.specs.Genesis.{genesis}
use Rattle.ecf_lang.specs.Meaning.{run, RunResult}
use Rattle.ecf_lang.specs.declared.cell.Cell.{Cell}
use Rattle.ecf_lang.specs.declared.run.Outcome.TheVariants.{Answer}
use Rattle.ecf_lang.specs.declared.tree.Op.TheVariants.{Add, Sub, Mul, Div, Rem}
use Rattle.ecf_lang.specs.declared.tree.Ty.TheVariants.{Num}
use Rattle.ecf_lang.specs.declared.tx.Tx.{Tx}
use Rattle.ecf_lang.specs.declared.typed.Typed.{Typed}
use Rattle.ecf_lang.specs.declared.typed.TypedStmt.{TypedStmt}
use Rattle.ecf_verdicts.specs.Words.{cell, read_step}

-- object N {
--   num x = 7;
--   method chain(n: num): num { return n + x - 2 - 3; }
--   method grouped(n: num): num { return n - (x - 2 + 3); }
--   method products(n: num): num { return n * x / 4 % 5; }
--   method mixed(n: num): num { return n + x * 2; }
--   method greatest(): num { return 340282366920938463463374607431768211454 + 1; }
--   method least(): num { return x - 7; }
--   method great_product(): num { return 18446744073709551616 * 18446744073709551615; }
-- }

-- chain of N
abbrev pub arithmetic_chain : List TypedStmt
arithmetic_chain = returns (sum (local 0) ((Add, field 0) ∷ (Sub, num 2) ∷ (Sub, num 3) ∷ [])) ∷ []

-- grouped of N
abbrev pub arithmetic_grouped : List TypedStmt
arithmetic_grouped =
    returns (minus (local 0) (sum (field 0) ((Sub, num 2) ∷ (Add, num 3) ∷ [])))
    ∷ []

-- products of N
abbrev pub arithmetic_products : List TypedStmt
arithmetic_products =
    returns (product (local 0) ((Mul, field 0) ∷ (Div, num 4) ∷ (Rem, num 5) ∷ []))
    ∷ []

-- mixed of N
abbrev pub arithmetic_mixed : List TypedStmt
arithmetic_mixed = returns (plus (local 0) (times (field 0) (num 2))) ∷ []

-- greatest of N
abbrev pub arithmetic_greatest : List TypedStmt
arithmetic_greatest = returns (plus (num 340282366920938463463374607431768211454) (num 1)) ∷ []

-- least of N
abbrev pub arithmetic_least : List TypedStmt
arithmetic_least = returns (minus (field 0) (num 7)) ∷ []

-- great_product of N
abbrev pub arithmetic_great_product : List TypedStmt
arithmetic_great_product =
    returns (times (num 18446744073709551616) (num 18446744073709551615))
    ∷ []

-- the contract
abbrev pub arithmetic : Typed
arithmetic = contract
    (signature (Num ∷ []) Num ∷ signature (Num ∷ []) Num ∷ signature (Num ∷ []) Num ∷ signature (Num ∷ []) Num
    ∷ signature [] Num ∷ signature [] Num ∷ signature [] Num ∷ [])
    (object (with_first ((0, 7) ∷ []) num_field ∷ []) (
    method 0 1 arithmetic_chain
    ∷ method 1 1 arithmetic_grouped
    ∷ method 2 1 arithmetic_products
    ∷ method 3 1 arithmetic_mixed
    ∷ method 4 0 arithmetic_greatest
    ∷ method 5 0 arithmetic_least
    ∷ method 6 0 arithmetic_great_product ∷ []) ∷ [])

-- x of N
abbrev pub x : Cell
x = cell 0 0 0

-- N chain 100 20
abbrev pub chain_20 : Tx
chain_20 = transaction 100 (tx_call 0 0 (20 ∷ []) ∷ [])

-- four parts of a sum
abbrev pub chain_20_result : RunResult
chain_20_result = record {
  outcome = Answer 22;
  fuel = 10;
  store = (x, 7) ∷ [];
  steps = read_step 0 x 7 ∷ [];
  invocations = invocation 0 0 (20 ∷ []) (Some 22) [] 10 ∷ [];
  reads = (x, 7) ∷ [];
  writes = [];
}

abbrev pub Chains : Type 0
Chains = run arithmetic (genesis arithmetic) chain_20 ≡ chain_20_result

-- N grouped 100 20
abbrev pub grouped_20 : Tx
grouped_20 = transaction 100 (tx_call 0 1 (20 ∷ []) ∷ [])

-- brackets make a part of their own
abbrev pub grouped_20_result : RunResult
grouped_20_result = record {
  outcome = Answer 12;
  fuel = 10;
  store = (x, 7) ∷ [];
  steps = read_step 0 x 7 ∷ [];
  invocations = invocation 0 1 (20 ∷ []) (Some 12) [] 10 ∷ [];
  reads = (x, 7) ∷ [];
  writes = [];
}

abbrev pub Groups : Type 0
Groups = run arithmetic (genesis arithmetic) grouped_20 ≡ grouped_20_result

-- N products 100 20
abbrev pub products_20 : Tx
products_20 = transaction 100 (tx_call 0 2 (20 ∷ []) ∷ [])

-- `*`, `/` and `%` in order
abbrev pub products_20_result : RunResult
products_20_result = record {
  outcome = Answer 0;
  fuel = 10;
  store = (x, 7) ∷ [];
  steps = read_step 0 x 7 ∷ [];
  invocations = invocation 0 2 (20 ∷ []) (Some 0) [] 10 ∷ [];
  reads = (x, 7) ∷ [];
  writes = [];
}

abbrev pub Multiplies : Type 0
Multiplies = run arithmetic (genesis arithmetic) products_20 ≡ products_20_result

-- N mixed 100 20
abbrev pub mixed_20 : Tx
mixed_20 = transaction 100 (tx_call 0 3 (20 ∷ []) ∷ [])

-- a product in a sum
abbrev pub mixed_20_result : RunResult
mixed_20_result = record {
  outcome = Answer 34;
  fuel = 8;
  store = (x, 7) ∷ [];
  steps = read_step 0 x 7 ∷ [];
  invocations = invocation 0 3 (20 ∷ []) (Some 34) [] 8 ∷ [];
  reads = (x, 7) ∷ [];
  writes = [];
}

abbrev pub Mixes : Type 0
Mixes = run arithmetic (genesis arithmetic) mixed_20 ≡ mixed_20_result

-- N greatest 100
abbrev pub ask_greatest : Tx
ask_greatest = transaction 100 (tx_call 0 4 [] ∷ [])

-- 2^128 - 1 is a number
abbrev pub ask_greatest_result : RunResult
ask_greatest_result = record {
  outcome = Answer 340282366920938463463374607431768211455;
  fuel = 4;
  store = (x, 7) ∷ [];
  steps = [];
  invocations = invocation 0 4 [] (Some 340282366920938463463374607431768211455) [] 4 ∷ [];
  reads = [];
  writes = [];
}

abbrev pub Greatest : Type 0
Greatest = run arithmetic (genesis arithmetic) ask_greatest ≡ ask_greatest_result

-- N least 100
abbrev pub ask_least : Tx
ask_least = transaction 100 (tx_call 0 5 [] ∷ [])

-- and so is 0
abbrev pub ask_least_result : RunResult
ask_least_result = record {
  outcome = Answer 0;
  fuel = 6;
  store = (x, 7) ∷ [];
  steps = read_step 0 x 7 ∷ [];
  invocations = invocation 0 5 [] (Some 0) [] 6 ∷ [];
  reads = (x, 7) ∷ [];
  writes = [];
}

abbrev pub Least : Type 0
Least = run arithmetic (genesis arithmetic) ask_least ≡ ask_least_result

-- N great_product 100
abbrev pub ask_great_product : Tx
ask_great_product = transaction 100 (tx_call 0 6 [] ∷ [])

-- a product below 2^128
abbrev pub ask_great_product_result : RunResult
ask_great_product_result = record {
  outcome = Answer 340282366920938463444927863358058659840;
  fuel = 4;
  store = (x, 7) ∷ [];
  steps = [];
  invocations = invocation 0 6 [] (Some 340282366920938463444927863358058659840) [] 4 ∷ [];
  reads = [];
  writes = [];
}

abbrev pub GreatProduct : Type 0
GreatProduct = run arithmetic (genesis arithmetic) ask_great_product ≡ ask_great_product_result
