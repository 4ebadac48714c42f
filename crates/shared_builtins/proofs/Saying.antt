-- What replies say, and the rows of those that a request cannot have.
use Rattle.std.proofs.Common.{◌≡◌, ℕ, zero, [], map, refl, ap}
use Rattle.pl_term.specs.Tree.{Chars, Tree, Trees}
use Rattle.pl_term.specs.Variables.{rename}
use Rattle.pl_model.specs.declared.grammar.Quotes.{Quotes}
use Rattle.pl_model.specs.BuiltinRows.{gives}
use Rattle.pl_model.specs.OperatorTable.{OperatorTable, operators}
use Rattle.pl_model.specs.Requests as requests
use Rattle.pl_model.specs.SharedBuiltins.{flags_row, message_row, named_row, procedures_row, status_row, succeeds_with}
use Rattle.world_api.specs.declared.reply.Reply.{Reply}
use Rattle.world_api.specs.declared.reply.Reply.TheVariants.{Standing, Clauses, Procedures, Flags, Operators, Named, Message, NoMessage, Status, Done, Gone, Refused}
use Rattle.world_api.specs.Replies.{HasNames, Says, operator_in}
use Rattle.term_store.specs.NumberedNames.{term_by}
use Rattle.shared_builtins.specs.Replies.{renumbered_reply}

-- Only a reply with names has them.
pub names_only : (reply : Reply Tree) → HasNames reply → ((x : _) → reply ≡ Operators x → ⊥) → ⊥
names_only (Operators os) h never = never os refl
names_only (Standing ops quotes) h never = h
names_only (Clauses f) h never = h
names_only (Procedures ps) h never = h
names_only (Flags fs) h never = h
names_only (Named n) h never = h
names_only (Message t) h never = h
names_only NoMessage h never = h
names_only (Status t) h never = h
names_only Done h never = h
names_only Gone h never = h
names_only (Refused e) h never = h

module _ (text : ℕ → Chars) where
  abbrev Says_ : Reply Tree → requests.Reply → Type 0
  Says_ r q = Says term_by text r q

  -- Only a refusal says one.
  only_refusals : (reply : Reply Tree) (e : Tree) → Says_ reply (requests.refused e) → (k : Tree) × ((reply ≡ Refused k) × (e ≡ term_by text k))
  only_refusals (Standing ops quotes) e h = absurd cc
  only_refusals (Clauses f) e h = absurd h
  only_refusals (Procedures ps) e h = absurd cc
  only_refusals (Flags fs) e h = absurd cc
  only_refusals (Operators os) e h = absurd h
  only_refusals (Named n) e h = absurd cc
  only_refusals (Message t) e h = absurd cc
  only_refusals NoMessage e h = absurd cc
  only_refusals (Status t) e h = absurd cc
  only_refusals Done e h = absurd cc
  only_refusals Gone e h = absurd cc
  only_refusals (Refused k) e h = (k, (refl, cc))

  -- What a reply that is no refusal says is not renumbered.
  pub said_as_is : (reply : Reply Tree) (r : requests.Reply) → ((k : Tree) → reply ≡ Refused k → ⊥) → Says_ reply (renumbered_reply r) → Says_ reply r
  said_as_is reply (requests.refused e) never h = let k = only_refusals reply (rename zero e) h in absurd (never k.0 k.1.0)
  said_as_is reply r never h = h

  -- The error of a refusal.
  pub refusal_said : (k : Tree) (r : requests.Reply) → Says_ (Refused k) (renumbered_reply r) → (e : Tree) × ((r ≡ requests.refused e) × (rename zero e ≡ term_by text k))
  refusal_said k (requests.refused e) h = (e, (refl, cc))
  refusal_said k r h = absurd cc

  listed_succeeds : (ts : Trees) (f : _) (r : requests.Reply) (next : ℕ) → Says_ (Clauses f) r → succeeds_with ts r next ≡ gives []
  listed_succeeds ts f (requests.standing ops quotes) next h = absurd h
  listed_succeeds ts f (requests.listed cs) next h = refl
  listed_succeeds ts f (requests.procedures ps) next h = absurd h
  listed_succeeds ts f (requests.flags fs) next h = absurd h
  listed_succeeds ts f (requests.named t) next h = absurd h
  listed_succeeds ts f (requests.message t) next h = absurd h
  listed_succeeds ts f requests.no_message next h = absurd h
  listed_succeeds ts f (requests.status t) next h = absurd h
  listed_succeeds ts f requests.done next h = absurd h
  listed_succeeds ts f requests.gone next h = absurd h
  listed_succeeds ts f (requests.refused e) next h = absurd h

  operators_succeeds : (ts : Trees) (f : _) (r : requests.Reply) (next : ℕ) → Says_ (Operators f) r → succeeds_with ts r next ≡ gives []
  operators_succeeds ts f (requests.standing ops quotes) next h = refl
  operators_succeeds ts f (requests.listed cs) next h = absurd h
  operators_succeeds ts f (requests.procedures ps) next h = absurd h
  operators_succeeds ts f (requests.flags fs) next h = absurd h
  operators_succeeds ts f (requests.named t) next h = absurd h
  operators_succeeds ts f (requests.message t) next h = absurd h
  operators_succeeds ts f requests.no_message next h = absurd h
  operators_succeeds ts f (requests.status t) next h = absurd h
  operators_succeeds ts f requests.done next h = absurd h
  operators_succeeds ts f requests.gone next h = absurd h
  operators_succeeds ts f (requests.refused e) next h = absurd h

  pub other_succeeds : (ts : Trees) (reply : Reply Tree) (r : requests.Reply) (next : ℕ) → (reply ≡ Done → ⊥) → ((x : _) → reply ≡ Refused x → ⊥) → Says_ reply r → succeeds_with ts r next ≡ gives []
  other_succeeds ts (Standing ops quotes) r next n0 n1 h = ap (λ x. succeeds_with ts x next) h
  other_succeeds ts (Clauses f) r next n0 n1 h = listed_succeeds ts f r next h
  other_succeeds ts (Procedures ps) r next n0 n1 h = ap (λ x. succeeds_with ts x next) h
  other_succeeds ts (Flags fs) r next n0 n1 h = ap (λ x. succeeds_with ts x next) h
  other_succeeds ts (Operators os) r next n0 n1 h = operators_succeeds ts os r next h
  other_succeeds ts (Named n) r next n0 n1 h = ap (λ x. succeeds_with ts x next) h
  other_succeeds ts (Message t) r next n0 n1 h = ap (λ x. succeeds_with ts x next) h
  other_succeeds ts NoMessage r next n0 n1 h = ap (λ x. succeeds_with ts x next) h
  other_succeeds ts (Status t) r next n0 n1 h = ap (λ x. succeeds_with ts x next) h
  other_succeeds ts Done r next n0 n1 h = absurd (n0 refl)
  other_succeeds ts Gone r next n0 n1 h = ap (λ x. succeeds_with ts x next) h
  other_succeeds ts (Refused e) r next n0 n1 h = absurd (n1 e refl)

  listed_names : (terms : Tree → Trees) (f : _) (r : requests.Reply) (next : ℕ) → Says_ (Clauses f) r → named_row terms r next ≡ gives []
  listed_names terms f (requests.standing ops quotes) next h = absurd h
  listed_names terms f (requests.listed cs) next h = refl
  listed_names terms f (requests.procedures ps) next h = absurd h
  listed_names terms f (requests.flags fs) next h = absurd h
  listed_names terms f (requests.named t) next h = absurd h
  listed_names terms f (requests.message t) next h = absurd h
  listed_names terms f requests.no_message next h = absurd h
  listed_names terms f (requests.status t) next h = absurd h
  listed_names terms f requests.done next h = absurd h
  listed_names terms f requests.gone next h = absurd h
  listed_names terms f (requests.refused e) next h = absurd h

  operators_names : (terms : Tree → Trees) (f : _) (r : requests.Reply) (next : ℕ) → Says_ (Operators f) r → named_row terms r next ≡ gives []
  operators_names terms f (requests.standing ops quotes) next h = refl
  operators_names terms f (requests.listed cs) next h = absurd h
  operators_names terms f (requests.procedures ps) next h = absurd h
  operators_names terms f (requests.flags fs) next h = absurd h
  operators_names terms f (requests.named t) next h = absurd h
  operators_names terms f (requests.message t) next h = absurd h
  operators_names terms f requests.no_message next h = absurd h
  operators_names terms f (requests.status t) next h = absurd h
  operators_names terms f requests.done next h = absurd h
  operators_names terms f requests.gone next h = absurd h
  operators_names terms f (requests.refused e) next h = absurd h

  pub other_names : (terms : Tree → Trees) (reply : Reply Tree) (r : requests.Reply) (next : ℕ) → ((x : _) → reply ≡ Named x → ⊥) → ((x : _) → reply ≡ Refused x → ⊥) → Says_ reply r → named_row terms r next ≡ gives []
  other_names terms (Standing ops quotes) r next n0 n1 h = ap (λ x. named_row terms x next) h
  other_names terms (Clauses f) r next n0 n1 h = listed_names terms f r next h
  other_names terms (Procedures ps) r next n0 n1 h = ap (λ x. named_row terms x next) h
  other_names terms (Flags fs) r next n0 n1 h = ap (λ x. named_row terms x next) h
  other_names terms (Operators os) r next n0 n1 h = operators_names terms os r next h
  other_names terms (Named n) r next n0 n1 h = absurd (n0 n refl)
  other_names terms (Message t) r next n0 n1 h = ap (λ x. named_row terms x next) h
  other_names terms NoMessage r next n0 n1 h = ap (λ x. named_row terms x next) h
  other_names terms (Status t) r next n0 n1 h = ap (λ x. named_row terms x next) h
  other_names terms Done r next n0 n1 h = ap (λ x. named_row terms x next) h
  other_names terms Gone r next n0 n1 h = ap (λ x. named_row terms x next) h
  other_names terms (Refused e) r next n0 n1 h = absurd (n1 e refl)

  listed_messages : (terms : Tree → Trees) (f : _) (r : requests.Reply) (next : ℕ) → Says_ (Clauses f) r → message_row terms r next ≡ gives []
  listed_messages terms f (requests.standing ops quotes) next h = absurd h
  listed_messages terms f (requests.listed cs) next h = refl
  listed_messages terms f (requests.procedures ps) next h = absurd h
  listed_messages terms f (requests.flags fs) next h = absurd h
  listed_messages terms f (requests.named t) next h = absurd h
  listed_messages terms f (requests.message t) next h = absurd h
  listed_messages terms f requests.no_message next h = absurd h
  listed_messages terms f (requests.status t) next h = absurd h
  listed_messages terms f requests.done next h = absurd h
  listed_messages terms f requests.gone next h = absurd h
  listed_messages terms f (requests.refused e) next h = absurd h

  operators_messages : (terms : Tree → Trees) (f : _) (r : requests.Reply) (next : ℕ) → Says_ (Operators f) r → message_row terms r next ≡ gives []
  operators_messages terms f (requests.standing ops quotes) next h = refl
  operators_messages terms f (requests.listed cs) next h = absurd h
  operators_messages terms f (requests.procedures ps) next h = absurd h
  operators_messages terms f (requests.flags fs) next h = absurd h
  operators_messages terms f (requests.named t) next h = absurd h
  operators_messages terms f (requests.message t) next h = absurd h
  operators_messages terms f requests.no_message next h = absurd h
  operators_messages terms f (requests.status t) next h = absurd h
  operators_messages terms f requests.done next h = absurd h
  operators_messages terms f requests.gone next h = absurd h
  operators_messages terms f (requests.refused e) next h = absurd h

  pub other_messages : (terms : Tree → Trees) (reply : Reply Tree) (r : requests.Reply) (next : ℕ) → ((x : _) → reply ≡ Message x → ⊥) → ((x : _) → reply ≡ Refused x → ⊥) → Says_ reply r → message_row terms r next ≡ gives []
  other_messages terms (Standing ops quotes) r next n0 n1 h = ap (λ x. message_row terms x next) h
  other_messages terms (Clauses f) r next n0 n1 h = listed_messages terms f r next h
  other_messages terms (Procedures ps) r next n0 n1 h = ap (λ x. message_row terms x next) h
  other_messages terms (Flags fs) r next n0 n1 h = ap (λ x. message_row terms x next) h
  other_messages terms (Operators os) r next n0 n1 h = operators_messages terms os r next h
  other_messages terms (Named n) r next n0 n1 h = ap (λ x. message_row terms x next) h
  other_messages terms (Message t) r next n0 n1 h = absurd (n0 t refl)
  other_messages terms NoMessage r next n0 n1 h = ap (λ x. message_row terms x next) h
  other_messages terms (Status t) r next n0 n1 h = ap (λ x. message_row terms x next) h
  other_messages terms Done r next n0 n1 h = ap (λ x. message_row terms x next) h
  other_messages terms Gone r next n0 n1 h = ap (λ x. message_row terms x next) h
  other_messages terms (Refused e) r next n0 n1 h = absurd (n1 e refl)

  listed_statuses : (terms : Tree → Trees) (f : _) (r : requests.Reply) (next : ℕ) → Says_ (Clauses f) r → status_row terms r next ≡ gives []
  listed_statuses terms f (requests.standing ops quotes) next h = absurd h
  listed_statuses terms f (requests.listed cs) next h = refl
  listed_statuses terms f (requests.procedures ps) next h = absurd h
  listed_statuses terms f (requests.flags fs) next h = absurd h
  listed_statuses terms f (requests.named t) next h = absurd h
  listed_statuses terms f (requests.message t) next h = absurd h
  listed_statuses terms f requests.no_message next h = absurd h
  listed_statuses terms f (requests.status t) next h = absurd h
  listed_statuses terms f requests.done next h = absurd h
  listed_statuses terms f requests.gone next h = absurd h
  listed_statuses terms f (requests.refused e) next h = absurd h

  operators_statuses : (terms : Tree → Trees) (f : _) (r : requests.Reply) (next : ℕ) → Says_ (Operators f) r → status_row terms r next ≡ gives []
  operators_statuses terms f (requests.standing ops quotes) next h = refl
  operators_statuses terms f (requests.listed cs) next h = absurd h
  operators_statuses terms f (requests.procedures ps) next h = absurd h
  operators_statuses terms f (requests.flags fs) next h = absurd h
  operators_statuses terms f (requests.named t) next h = absurd h
  operators_statuses terms f (requests.message t) next h = absurd h
  operators_statuses terms f requests.no_message next h = absurd h
  operators_statuses terms f (requests.status t) next h = absurd h
  operators_statuses terms f requests.done next h = absurd h
  operators_statuses terms f requests.gone next h = absurd h
  operators_statuses terms f (requests.refused e) next h = absurd h

  pub other_statuses : (terms : Tree → Trees) (reply : Reply Tree) (r : requests.Reply) (next : ℕ) → ((x : _) → reply ≡ Status x → ⊥) → ((x : _) → reply ≡ Refused x → ⊥) → Says_ reply r → status_row terms r next ≡ gives []
  other_statuses terms (Standing ops quotes) r next n0 n1 h = ap (λ x. status_row terms x next) h
  other_statuses terms (Clauses f) r next n0 n1 h = listed_statuses terms f r next h
  other_statuses terms (Procedures ps) r next n0 n1 h = ap (λ x. status_row terms x next) h
  other_statuses terms (Flags fs) r next n0 n1 h = ap (λ x. status_row terms x next) h
  other_statuses terms (Operators os) r next n0 n1 h = operators_statuses terms os r next h
  other_statuses terms (Named n) r next n0 n1 h = ap (λ x. status_row terms x next) h
  other_statuses terms (Message t) r next n0 n1 h = ap (λ x. status_row terms x next) h
  other_statuses terms NoMessage r next n0 n1 h = ap (λ x. status_row terms x next) h
  other_statuses terms (Status t) r next n0 n1 h = absurd (n0 t refl)
  other_statuses terms Done r next n0 n1 h = ap (λ x. status_row terms x next) h
  other_statuses terms Gone r next n0 n1 h = ap (λ x. status_row terms x next) h
  other_statuses terms (Refused e) r next n0 n1 h = absurd (n1 e refl)

  listed_procedures : (f : _) (r : requests.Reply) (next : ℕ) → Says_ (Clauses f) r → procedures_row r next ≡ gives []
  listed_procedures f (requests.standing ops quotes) next h = absurd h
  listed_procedures f (requests.listed cs) next h = refl
  listed_procedures f (requests.procedures ps) next h = absurd h
  listed_procedures f (requests.flags fs) next h = absurd h
  listed_procedures f (requests.named t) next h = absurd h
  listed_procedures f (requests.message t) next h = absurd h
  listed_procedures f requests.no_message next h = absurd h
  listed_procedures f (requests.status t) next h = absurd h
  listed_procedures f requests.done next h = absurd h
  listed_procedures f requests.gone next h = absurd h
  listed_procedures f (requests.refused e) next h = absurd h

  operators_procedures : (f : _) (r : requests.Reply) (next : ℕ) → Says_ (Operators f) r → procedures_row r next ≡ gives []
  operators_procedures f (requests.standing ops quotes) next h = refl
  operators_procedures f (requests.listed cs) next h = absurd h
  operators_procedures f (requests.procedures ps) next h = absurd h
  operators_procedures f (requests.flags fs) next h = absurd h
  operators_procedures f (requests.named t) next h = absurd h
  operators_procedures f (requests.message t) next h = absurd h
  operators_procedures f requests.no_message next h = absurd h
  operators_procedures f (requests.status t) next h = absurd h
  operators_procedures f requests.done next h = absurd h
  operators_procedures f requests.gone next h = absurd h
  operators_procedures f (requests.refused e) next h = absurd h

  pub other_procedures : (reply : Reply Tree) (r : requests.Reply) (next : ℕ) → ((x : _) → reply ≡ Procedures x → ⊥) → Says_ reply r → procedures_row r next ≡ gives []
  other_procedures (Standing ops quotes) r next n0 h = ap (λ x. procedures_row x next) h
  other_procedures (Clauses f) r next n0 h = listed_procedures f r next h
  other_procedures (Procedures ps) r next n0 h = absurd (n0 ps refl)
  other_procedures (Flags fs) r next n0 h = ap (λ x. procedures_row x next) h
  other_procedures (Operators os) r next n0 h = operators_procedures os r next h
  other_procedures (Named n) r next n0 h = ap (λ x. procedures_row x next) h
  other_procedures (Message t) r next n0 h = ap (λ x. procedures_row x next) h
  other_procedures NoMessage r next n0 h = ap (λ x. procedures_row x next) h
  other_procedures (Status t) r next n0 h = ap (λ x. procedures_row x next) h
  other_procedures Done r next n0 h = ap (λ x. procedures_row x next) h
  other_procedures Gone r next n0 h = ap (λ x. procedures_row x next) h
  other_procedures (Refused e) r next n0 h = ap (λ x. procedures_row x next) h

  listed_flags : (f : _) (r : requests.Reply) (next : ℕ) → Says_ (Clauses f) r → flags_row r next ≡ gives []
  listed_flags f (requests.standing ops quotes) next h = absurd h
  listed_flags f (requests.listed cs) next h = refl
  listed_flags f (requests.procedures ps) next h = absurd h
  listed_flags f (requests.flags fs) next h = absurd h
  listed_flags f (requests.named t) next h = absurd h
  listed_flags f (requests.message t) next h = absurd h
  listed_flags f requests.no_message next h = absurd h
  listed_flags f (requests.status t) next h = absurd h
  listed_flags f requests.done next h = absurd h
  listed_flags f requests.gone next h = absurd h
  listed_flags f (requests.refused e) next h = absurd h

  operators_flags : (f : _) (r : requests.Reply) (next : ℕ) → Says_ (Operators f) r → flags_row r next ≡ gives []
  operators_flags f (requests.standing ops quotes) next h = refl
  operators_flags f (requests.listed cs) next h = absurd h
  operators_flags f (requests.procedures ps) next h = absurd h
  operators_flags f (requests.flags fs) next h = absurd h
  operators_flags f (requests.named t) next h = absurd h
  operators_flags f (requests.message t) next h = absurd h
  operators_flags f requests.no_message next h = absurd h
  operators_flags f (requests.status t) next h = absurd h
  operators_flags f requests.done next h = absurd h
  operators_flags f requests.gone next h = absurd h
  operators_flags f (requests.refused e) next h = absurd h

  pub other_flags : (reply : Reply Tree) (r : requests.Reply) (next : ℕ) → ((x : _) → reply ≡ Flags x → ⊥) → Says_ reply r → flags_row r next ≡ gives []
  other_flags (Standing ops quotes) r next n0 h = ap (λ x. flags_row x next) h
  other_flags (Clauses f) r next n0 h = listed_flags f r next h
  other_flags (Procedures ps) r next n0 h = ap (λ x. flags_row x next) h
  other_flags (Flags fs) r next n0 h = absurd (n0 fs refl)
  other_flags (Operators os) r next n0 h = operators_flags os r next h
  other_flags (Named n) r next n0 h = ap (λ x. flags_row x next) h
  other_flags (Message t) r next n0 h = ap (λ x. flags_row x next) h
  other_flags NoMessage r next n0 h = ap (λ x. flags_row x next) h
  other_flags (Status t) r next n0 h = ap (λ x. flags_row x next) h
  other_flags Done r next n0 h = ap (λ x. flags_row x next) h
  other_flags Gone r next n0 h = ap (λ x. flags_row x next) h
  other_flags (Refused e) r next n0 h = ap (λ x. flags_row x next) h

  -- Operators by their names.
  pub operators_said : (os : _) (r : requests.Reply) → Says_ (Operators os) r
      → (t : OperatorTable) × (q : Quotes) × (r ≡ requests.standing t q) × (operators t ≡ map (operator_in text) os.items)
  operators_said os (requests.standing t q) h = (t, q, refl, h)
  operators_said os (requests.listed cs) h = absurd h
  operators_said os (requests.procedures ps) h = absurd h
  operators_said os (requests.flags fs) h = absurd h
  operators_said os (requests.named t) h = absurd h
  operators_said os (requests.message t) h = absurd h
  operators_said os requests.no_message h = absurd h
  operators_said os (requests.status t) h = absurd h
  operators_said os requests.done h = absurd h
  operators_said os requests.gone h = absurd h
  operators_said os (requests.refused e) h = absurd h

  -- A refusal is no table.
  pub plain_procedures : (reply : Reply Tree) (r : requests.Reply) (next : ℕ) → ((x : _) → reply ≡ Procedures x → ⊥) → Says_ reply (renumbered_reply r) → procedures_row r next ≡ gives []
  plain_procedures reply (requests.refused e) next never h = refl
  plain_procedures reply r next never h = other_procedures reply r next never h

  pub plain_flags : (reply : Reply Tree) (r : requests.Reply) (next : ℕ) → ((x : _) → reply ≡ Flags x → ⊥) → Says_ reply (renumbered_reply r) → flags_row r next ≡ gives []
  plain_flags reply (requests.refused e) next never h = refl
  plain_flags reply r next never h = other_flags reply r next never h
