-- Each stage comes to one outcome at most, where shelf and source are told and nothing failed; so a chain of stages does.
use Rattle.std.proofs.Common.{◌≡◌, ◌<◌, ◌≤◌, ℕ, false, List, [], Option, Some, None, IfSome, length, Result, Ok, Err, refl, ap, sym, subst, ◌∙◌, arith}
use Rattle.std.specs.Prelude.{IsSomeAnd}
use Rattle.ecf_edge.specs.Count.{Rose, counted_up}
use Rattle.ecf_edge.specs.Shelf.{Files, content_of}
use Rattle.ecf_grammar.specs.declared.tokens.Token.{Token}
use Rattle.ecf_grammar.specs.Lexemes.{Lexeme, lexemes_of}
use Rattle.ecf_grammar.specs.Readings.{OneReading, ReadOrRefused, OneFault}
use Rattle.ecf_grammar.specs.Spells.{IsFileOf, IsOutOfPlace, IsTooDeep, OneTree, OneAnswer}
use Rattle.ecf_lang.specs.declared.limits.TheConstants.{MAX_CONTRACT_BYTES}
use Rattle.ecf_lang.specs.declared.tree.Tree.{Tree}
use Rattle.ecf_lang.specs.declared.typed.Typed.{Typed}
use Rattle.ecf_lines.specs.Stream.{StreamSaid, stream_said}
use Rattle.ecf_faults.specs.declared.What.{What}
use Rattle.ecf_faults.specs.Expressions.{fault}
use Rattle.ecf_faults.specs.Declarations.{faults_of_tree, numbered_form}
use Rattle.ecf_faults.specs.Least.{IsLeast}
use Rattle.ecf_host.specs.declared.refusal.Refusal.{Refusal}
use Rattle.ecf_host.specs.declared.refusal.Refusal.TheVariants.{Words, TooLong, Syntax, TooDeep, Typing, Missing, ReadFault}
use Rattle.ecf_host.specs.Answers.{Answer}
use Rattle.ecf_host.specs.Contract.{fetched, refusal_of_fault, lexed, parsed, spelled, typed, contract}
use Rattle.ecf_host.specs.Due.{journal_answer, IsRun, ran, due_of_run, shown_answer, shown, due_of_show, refused_words, due, IsSmooth, OneDue}
use Rattle.ecf_host.specs.Stages.{Stage, ◌▷◌, of_shelf, computed, of_source, untouched, OneAtMost}
use Rattle.ecf_host.specs.Stages.◌▷◌.{refused, went_on}
use Rattle.ecf_host.specs.Stream.{IsStream, streamed}
use Rattle.ecf_host.specs.Stream.IsStream.{read_on, cut_off}
use Rattle.ecf_host.specs.Words.{Command}
use Rattle.ecf_host.specs.World.{Inputs, ShelfState, SourceState}
use Rattle.ecf_host.proofs.TypeLaws.{none_least, one_least}

-- ---- chains

same_refusal : {A : Type 0} (some other : Refusal) → (let none : Result A Refusal = Err some in none ≡ Err other) → some ≡ other
same_refusal some other is = cc

same_value : {A : Type 0} (some other : A) → (let value : Result A Refusal = Ok some in value ≡ Ok other) → some ≡ other
same_value some other is = cc

not_both : {A : Type 0} (value : A) (refusal : Refusal) → (let none : Result A Refusal = Err refusal in none ≡ Ok value) → ⊥
not_both value refusal is = cc

-- a chain of stages keeps it
pub chain_one : {A B : Type 0} (first : Stage A) (next : A → Stage B) → OneAtMost first → ((value : A) → OneAtMost (next value)) → OneAtMost (first ▷ next)
chain_one first next one more some other (refused r h) (refused s k) = ap Err (same_refusal r s (one (Err r) (Err s) h k))
chain_one first next one more some other (refused r h) (went_on w p k m) = absurd (not_both w r (one (Err r) (Ok w) h k))
chain_one first next one more some other (went_on v o h l) (refused s k) = absurd (not_both v s (one (Err s) (Ok v) k h))
chain_one first next one more some other (went_on v o h l) (went_on w p k m) = more w some other (subst (λ x. next x some) (same_value v w (one (Ok v) (Ok w) h k)) l) m

-- so does what says more of a stage
narrower : {A : Type 0} (stage narrow : Stage A) → ((outcome : Result A Refusal) → narrow outcome → stage outcome) → OneAtMost stage → OneAtMost narrow
narrower stage narrow implies one some other h k = one some other (implies some h) (implies other k)

from_shelf : {A : Type 0} (before after : Inputs) (stage : Stage A) (outcome : Result A Refusal) → of_shelf before after stage outcome → stage outcome
from_shelf before after stage (Ok value) is = is
from_shelf before after stage (Err refusal) is = is.0

from_computed : {A : Type 0} (before after : Inputs) (stage : Stage A) (outcome : Result A Refusal) → computed before after stage outcome → stage outcome
from_computed before after stage (Ok value) is = is
from_computed before after stage (Err refusal) is = is.0

-- a stage whose outcome something determines
determined : {A : Type 0} (stage : Stage A) (outcome : Result A Refusal) → ((some : Result A Refusal) → stage some → some ≡ outcome) → OneAtMost stage
determined stage outcome is some other h k = is some h ∙ sym (is other k)

-- ---- the contract

-- what is told
told : {X : Type 0} (P : X → Type 0) (seen : Option X) (value : X) → seen ≡ Some value → IfSome seen P → P value
told P seen value is h = subst (λ s. IfSome s P) is h

-- what a fetch that didn't fail finds
data Found (content : Option (List ℕ)) : Result (List ℕ) Refusal → Type 0 where
  is_text : (bytes : List ℕ) → content ≡ Some bytes → length bytes ≤ MAX_CONTRACT_BYTES → Found content (Ok bytes)
  is_long : (bytes : List ℕ) → content ≡ Some bytes → MAX_CONTRACT_BYTES < length bytes → Found content (Err TooLong)
  is_none : content ≡ None → Found content (Err Missing)

same_bytes : (content : Option (List ℕ)) (some other : List ℕ) → content ≡ Some some → content ≡ Some other → some ≡ other
same_bytes content some other is also = cc

some_or_none : (content : Option (List ℕ)) (some : List ℕ) → content ≡ Some some → content ≡ None → ⊥
some_or_none content some is none = cc

too_long : (content : Option (List ℕ)) (some other : List ℕ) → content ≡ Some some → content ≡ Some other → length some ≤ MAX_CONTRACT_BYTES → MAX_CONTRACT_BYTES < length other → ⊥
too_long content some other is also within over = let same = ap length (same_bytes content some other is also) in omega arith

one_found : (content : Option (List ℕ)) (some other : Result (List ℕ) Refusal) → Found content some → Found content other → some ≡ other
one_found content some other (is_text b h w) (is_text c k x) = ap Ok (same_bytes content b c h k)
one_found content some other (is_text b h w) (is_long c k x) = absurd (too_long content b c h k w x)
one_found content some other (is_text b h w) (is_none k) = absurd (some_or_none content b h k)
one_found content some other (is_long b h w) (is_text c k x) = absurd (too_long content c b k h x w)
one_found content some other (is_long b h w) (is_long c k x) = refl
one_found content some other (is_long b h w) (is_none k) = absurd (some_or_none content b h k)
one_found content some other (is_none h) (is_text c k x) = absurd (some_or_none content c k h)
one_found content some other (is_none h) (is_long c k x) = absurd (some_or_none content c k h)
one_found content some other (is_none h) (is_none k) = refl

longer : (content : Option (List ℕ)) → IsSomeAnd content (λ bytes. MAX_CONTRACT_BYTES < length bytes) → Found content (Err TooLong)
longer (Some bytes) over = is_long bytes refl over
longer None over = absurd over

counted_rose : (before after : ℕ) → after ≡ counted_up before → Rose before after
counted_rose before after is = subst (λ n. n ≤ after) is (omega arith)

module _ (before after : ShelfState) (files : Files) (is_told : before.files ≡ Some files) (calm : ¬ Rose before.faults after.faults) (file : List ℕ) where
  found : (outcome : Result (List ℕ) Refusal) → fetched before after file outcome → Found (content_of files file) outcome
  found (Ok bytes) is = is_text bytes (told (λ fs. content_of fs file ≡ Some bytes) before.files files is_told is.held) is.within
  found (Err Missing) is = is_none (told (λ fs. content_of fs file ≡ None) before.files files is_told is.0)
  found (Err TooLong) is = longer (content_of files file) (told (λ fs. IsSomeAnd (content_of fs file) (λ bytes. MAX_CONTRACT_BYTES < length bytes)) before.files files is_told is.0)
  found (Err ReadFault) is = absurd (calm (counted_rose before.faults after.faults (ap (λ (s : ShelfState). s.faults) is)))
  found (Err _) is = absurd is

  fetched_one : OneAtMost (fetched before after file)
  fetched_one some other h k = one_found (content_of files file) some other (found some h) (found other k)

module _ (reading : OneReading) (apart : ReadOrRefused) (fault : OneFault) where
  lexed_one : (text : List ℕ) → OneAtMost (lexed text)
  lexed_one text (Ok tokens) (Ok others) h k = ap Ok (reading text tokens others h k)
  lexed_one text (Ok tokens) (Err refusal) h k = absurd (apart text tokens k.0 h k.2)
  lexed_one text (Err refusal) (Ok tokens) h k = absurd (apart text tokens h.0 k h.2)
  lexed_one text (Err refusal) (Err other) h k = ap Err (h.1 ∙ ap refusal_of_fault (fault text h.0 k.0 h.2 k.2) ∙ sym k.1)

-- what the parser finds
data Parsed (lexemes : List Lexeme) : Result Tree Refusal → Type 0 where
  is_file : (tree : Tree) → IsFileOf lexemes tree → Parsed lexemes (Ok tree)
  is_out : (token : ℕ) → IsOutOfPlace lexemes token → Parsed lexemes (Err (Syntax token))
  is_deep : (token : ℕ) → IsTooDeep lexemes token → Parsed lexemes (Err (TooDeep token))

module _ (tree : OneTree) (answer : OneAnswer) where
  one_parsed : (lexemes : List Lexeme) (some other : Result Tree Refusal) → Parsed lexemes some → Parsed lexemes other → some ≡ other
  one_parsed ls some other (is_file t h) (is_file u k) = ap Ok (tree ls t u h.spelled k.spelled)
  one_parsed ls some other (is_file t h) (is_out n k) = absurd (answer.file_or_place ls t n h k)
  one_parsed ls some other (is_file t h) (is_deep n k) = absurd (answer.file_or_deep ls t n h k)
  one_parsed ls some other (is_out n h) (is_file t k) = absurd (answer.file_or_place ls t n k h)
  one_parsed ls some other (is_out n h) (is_out m k) = ap (λ x. Err (Syntax x)) (answer.one_place ls n m h k)
  one_parsed ls some other (is_out n h) (is_deep m k) = absurd (answer.place_or_deep ls n m h k)
  one_parsed ls some other (is_deep n h) (is_file t k) = absurd (answer.file_or_deep ls t n k h)
  one_parsed ls some other (is_deep n h) (is_out m k) = absurd (answer.place_or_deep ls m n k h)
  one_parsed ls some other (is_deep n h) (is_deep m k) = ap (λ x. Err (TooDeep x)) (answer.one_deep ls n m h k)

  parse_found : (text : List ℕ) (tokens : List Token) (outcome : Result Tree Refusal) → parsed text tokens outcome → Parsed (lexemes_of text tokens) outcome
  parse_found text tokens (Ok t) is = is_file t is
  parse_found text tokens (Err (Syntax token)) is = is_out token is
  parse_found text tokens (Err (TooDeep token)) is = is_deep token is
  parse_found text tokens (Err _) is = absurd is

  parsed_one : (text : List ℕ) (tokens : List Token) → OneAtMost (parsed text tokens)
  parsed_one text tokens some other h k = one_parsed (lexemes_of text tokens) some other (parse_found text tokens some h) (parse_found text tokens other k)

-- what the check of names and types finds
data Checked (tree : Tree) : Result Typed Refusal → Type 0 where
  is_sound : faults_of_tree tree ≡ [] → Checked tree (Ok (numbered_form tree))
  is_faulty : (token : ℕ) (what : What) → IsLeast (fault token what) (faults_of_tree tree) → Checked tree (Err (Typing token what))

one_checked : (tree : Tree) (some other : Result Typed Refusal) → Checked tree some → Checked tree other → some ≡ other
one_checked tree some other (is_sound h) (is_sound k) = refl
one_checked tree some other (is_sound h) (is_faulty token what k) = absurd (none_least _ h (fault token what) k)
one_checked tree some other (is_faulty token what h) (is_sound k) = absurd (none_least _ k (fault token what) h)
one_checked tree some other (is_faulty token what h) (is_faulty place kind k) =
    ap (λ f. Err (Typing f.token f.what)) (one_least (faults_of_tree tree) (fault token what) (fault place kind) h k)

check_found : (tree : Tree) (outcome : Result Typed Refusal) → typed tree outcome → Checked tree outcome
check_found tree (Ok form) is = subst (λ f. Checked tree (Ok f)) (sym is.1) (is_sound is.0)
check_found tree (Err (Typing token what)) is = is_faulty token what is
check_found tree (Err _) is = absurd is

typed_one : (tree : Tree) → OneAtMost (typed tree)
typed_one tree some other h k = one_checked tree some other (check_found tree some h) (check_found tree other k)

-- ---- the stream

-- what is told of a stream that is read without a fault
told_stream : (left : Option (List ℕ)) (bytes read : List ℕ) → left ≡ Some bytes → IfSome left (λ all. all ≡ read) → bytes ≡ read
told_stream left bytes read is all = told (λ b. b ≡ read) left bytes is all

module _ (typed : Typed) (before after : SourceState) (bytes : List ℕ) (is_told : before.left ≡ Some bytes) (calm : ¬ Rose before.faults after.faults) where
  stream_is : (said : StreamSaid) → IsStream typed before after said → said ≡ stream_said typed false 0 bytes false
  stream_is said (read_on h) = h.says ∙ ap (λ b. stream_said typed false 0 b false) (sym (told_stream before.left bytes h.bytes is_told h.told))
  stream_is said (cut_off h) = absurd (calm (counted_rose before.faults after.faults h.faults))

  streamed_is : (outcome : Result StreamSaid Refusal) → streamed typed before after outcome → outcome ≡ Ok (stream_said typed false 0 bytes false)
  streamed_is (Ok said) is = ap Ok (stream_is said is)
  streamed_is (Err refusal) is = absurd is

  streamed_one : OneAtMost (streamed typed before after)
  streamed_one = determined (streamed typed before after) (Ok (stream_said typed false 0 bytes false)) streamed_is

-- ---- the run

ran_is : (typed : Typed) (said : StreamSaid) (outcome : Result Answer Refusal) → ran typed said outcome → outcome ≡ Ok (journal_answer typed said)
ran_is typed said (Ok answer) is = ap Ok is.in_order
ran_is typed said (Err refusal) is = absurd is

-- ---- the canonical text

shown_is : (tree : Tree) (outcome : Result Answer Refusal) → shown tree outcome → outcome ≡ Ok (shown_answer tree)
shown_is tree (Ok answer) is = ap Ok is
shown_is tree (Err refusal) is = absurd is

-- ---- what is due

refused_words_is : (outcome : Result Answer Refusal) → refused_words outcome → outcome ≡ Err Words
refused_words_is (Ok answer) is = absurd is
refused_words_is (Err refusal) is = ap Err is

module _ (reading : OneReading) (apart : ReadOrRefused) (fault : OneFault) (tree : OneTree) (answer : OneAnswer) where
  contract_one : (text : List ℕ) → OneAtMost (contract text)
  contract_one text = chain_one (lexed text) (λ tokens. parsed text tokens ▷ typed) (lexed_one reading apart fault text)
      (λ tokens. chain_one (parsed text tokens) typed (parsed_one tree answer text tokens) typed_one)

  run_one : (file : List ℕ) (before after : Inputs) → IsSmooth before after → OneAtMost (due_of_run file before after)
  run_one file before after smooth =
      chain_one (of_shelf before after (fetched before.shelf after.shelf file)) _
      (narrower (fetched before.shelf after.shelf file) (of_shelf before after (fetched before.shelf after.shelf file)) (from_shelf before after (fetched before.shelf after.shelf file))
      (fetched_one before.shelf after.shelf smooth.files smooth.files_told smooth.fetches file))
      (λ text. chain_one (computed before after (contract text)) _
      (narrower (contract text) (computed before after (contract text)) (from_computed before after (contract text)) (contract_one text))
      (λ typed. chain_one (of_source before after (streamed typed before.source after.source)) (ran typed)
      (narrower (streamed typed before.source after.source) (of_source before after (streamed typed before.source after.source)) (λ outcome is. is.0)
      (streamed_one typed before.source after.source smooth.bytes smooth.bytes_told smooth.reads))
      (λ said. determined (ran typed said) (Ok (journal_answer typed said)) (ran_is typed said))))

  show_one : (file : List ℕ) (before after : Inputs) → IsSmooth before after → OneAtMost (due_of_show file before after)
  show_one file before after smooth =
      chain_one (of_shelf before after (fetched before.shelf after.shelf file)) _
      (narrower (fetched before.shelf after.shelf file) (of_shelf before after (fetched before.shelf after.shelf file)) (from_shelf before after (fetched before.shelf after.shelf file))
      (fetched_one before.shelf after.shelf smooth.files smooth.files_told smooth.fetches file))
      (λ text. narrower (spelled text ▷ shown) (untouched before after (spelled text ▷ shown)) (λ outcome is. is.0)
      (chain_one (spelled text) shown (chain_one (lexed text) (parsed text) (lexed_one reading apart fault text) (parsed_one tree answer text))
      (λ shape. determined (shown shape) (Ok (shown_answer shape)) (shown_is shape))))

  pub one_due : OneDue
  one_due (Some (Command.Run file)) before after smooth = run_one file before after smooth
  one_due (Some (Command.Show file)) before after smooth = show_one file before after smooth
  one_due None before after smooth =
      narrower refused_words (computed before after refused_words) (from_computed before after refused_words) (determined refused_words (Err Words) refused_words_is)
