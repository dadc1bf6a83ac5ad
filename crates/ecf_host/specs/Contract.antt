-- The stages of a contract: its file is fetched, cut into tokens, read as a tree, and given numbers for names.
use Rattle.std.specs.Prelude.{◌≡◌, ℕ, ◌≤◌, List, length, [], Ok, Err}
use Rattle.ecf_lang.specs.declared.limits.TheConstants.{MAX_CONTRACT_BYTES}
use Rattle.ecf_lang.specs.declared.tree.Tree.{Tree}
use Rattle.ecf_lang.specs.declared.typed.Typed.{Typed}
use Rattle.ecf_edge.specs.Count.{counted_up}
use Rattle.ecf_edge.specs.Shelf.{HoldsUnder, HoldsNoneUnder, HoldsMoreUnder}
use Rattle.ecf_grammar.specs.declared.tokens.Token.{Token}
use Rattle.ecf_grammar.specs.Reading.{Reads, IsFaulty, Fault}
use Rattle.ecf_grammar.specs.Lexemes.{lexemes_of}
use Rattle.ecf_grammar.specs.Spells.{IsFileOf, IsOutOfPlace, IsTooDeep}
use Rattle.ecf_faults.specs.Expressions.{fault}
use Rattle.ecf_faults.specs.Declarations.{faults_of_tree, numbered_form}
use Rattle.ecf_faults.specs.Least.{IsLeast}
use Rattle.ecf_host.specs.declared.refusal.Refusal.{Refusal}
use Rattle.ecf_host.specs.declared.refusal.Refusal.TheVariants.{TooLong, BadByte, WideNumber, TooManyTokens, Syntax, TooDeep, Typing, Missing, ReadFault}
use Rattle.ecf_host.specs.Stages.{Stage, ◌▷◌}
use Rattle.ecf_host.specs.World.{ShelfState}

-- the text of a file, of no more bytes than may be
pub record IsFetched (shelf : ShelfState) (file text : List ℕ) : Type 0 where
  pub held : HoldsUnder shelf.files file text
  pub within : length text ≤ MAX_CONTRACT_BYTES

-- fetched: a file is missing, too long or unreadable only where the shelf counts that, and counts nothing else
abbrev pub fetched : ShelfState → ShelfState → List ℕ → Stage (List ℕ)
fetched before after file (Ok text) = IsFetched before file text
fetched before after file (Err Missing) =
    HoldsNoneUnder before.files file × (after ≡ record before { absences = counted_up before.absences })
fetched before after file (Err TooLong) =
    HoldsMoreUnder before.files file MAX_CONTRACT_BYTES × (after ≡ record before { long_answers = counted_up before.long_answers })
fetched before after file (Err ReadFault) = after ≡ record before { faults = counted_up before.faults }
fetched before after file (Err _) = ⊥

-- the refusal of a text with a byte at fault
abbrev pub refusal_of_fault : Fault → Refusal
refusal_of_fault (Fault.BadByte at) = BadByte at
refusal_of_fault (Fault.WideNumber at) = WideNumber at
refusal_of_fault (Fault.TooManyTokens at) = TooManyTokens at

-- lexed: the tokens of a text, or its byte at fault
abbrev pub lexed : List ℕ → Stage (List Token)
lexed text (Ok tokens) = Reads text tokens
lexed text (Err refusal) = (fault : Fault) × (refusal ≡ refusal_of_fault fault) × IsFaulty text fault

-- parsed: the tree that tokens spell, or the first of them out of place or nested too deep
abbrev pub parsed : List ℕ → List Token → Stage Tree
parsed text tokens (Ok tree) = IsFileOf (lexemes_of text tokens) tree
parsed text tokens (Err (Syntax token)) = IsOutOfPlace (lexemes_of text tokens) token
parsed text tokens (Err (TooDeep token)) = IsTooDeep (lexemes_of text tokens) token
parsed text tokens (Err _) = ⊥

-- the tree that a text spells
abbrev pub spelled : List ℕ → Stage Tree
spelled text = lexed text ▷ parsed text

-- typed: the numbered form of a tree in which no name and no type is wrong, or its first fault
abbrev pub typed : Tree → Stage Typed
typed tree (Ok form) = (faults_of_tree tree ≡ []) × (form ≡ numbered_form tree)
typed tree (Err (Typing token what)) = IsLeast (fault token what) (faults_of_tree tree)
typed tree (Err _) = ⊥

-- the contract that a text is
abbrev pub contract : List ℕ → Stage Typed
contract text = lexed text ▷ (λ tokens. parsed text tokens ▷ typed)
