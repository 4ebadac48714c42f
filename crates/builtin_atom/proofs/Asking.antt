-- The texts of answers, which are asked of the atoms.
use Rattle.std.proofs.Common.{◌≡◌, ℕ, ◌+◌, ◌<◌, ◌≤◌, ◌^◌, List, [], ◌∷◌, Option, sym, subst}
use Rattle.std.specs.List.{Contains}
use Rattle.std.proofs.lemmas.List.Elements.{All-contains_itself, All-head, Contains-append_left}
use Rattle.pl_term.specs.Tree.{Chars, Tree, Trees, atom}
use Rattle.pl_model.specs.History.{Proc}
use Rattle.pl_model.specs.BuiltinRows as defined
use Rattle.pl_model.specs.BuiltinRows.{one_answer}
use Rattle.pl_model.specs.TermBuiltins.{makes, two}
use Rattle.term_store.specs.Contents.{Contents}
use Rattle.world_api.specs.Asked.{texts_in_all}
use Rattle.world_api.specs.Gains.{Gains}
use Rattle.world_api.proofs.Gaining.{gains_weaker, gains_nothing}
use Rattle.builtin_rows.specs.Given.{given, given_texts}
use Rattle.builtin_atom.specs.Answering.{AsksFor}
use Rattle.builtin_atom.proofs.Rows.{fits_is}

pub contains_first : {X : Type 0} (t : X) (ts : List X) → Contains (t ∷ ts) t
contains_first t ts = All-head (Contains (t ∷ ts)) t ts (All-contains_itself (t ∷ ts))

-- A text of an answer with so many cells, which fit, is one of what is given.
pub given_has : (s : Contents) (p : Proc) (ts us : Trees) (k : ℕ) (c : Chars) → s.used + k ≤ s.budget → Contains (texts_in_all us) c
    → (next : ℕ) → next < 2 ^ 64 → Contains (given_texts (given p ts next s.used s.budget (makes us k))) c
given_has s p ts us k c fits has next below =
    subst (λ g. Contains (given_texts g) c) (sym (fits_is p ts us next s.used s.budget k below fits)) (Contains-append_left (texts_in_all us) [] c has)

pub asks_given : (s : Contents) (p : Proc) (ts us : Trees) (k : ℕ) (P : Chars → Type 0) (old new : Option (List Chars)) → s.used + k ≤ s.budget
    → ((c : Chars) → P c → Contains (texts_in_all us) c) → Gains P old new → AsksFor s p ts (makes us k) old new
asks_given s p ts us k P old new fits has gains =
    gains_weaker P (λ c. (next : ℕ) → next < 2 ^ 64 → Contains (given_texts (given p ts next s.used s.budget (makes us k))) c) old new
    (λ c q. given_has s p ts us k c fits (has c q)) gains

-- The atom of an answer.
pub asks_atom : (s : Contents) (p : Proc) (ts : Trees) (t : Chars) (u : Tree) (old new : Option (List Chars)) → s.used + 0 ≤ s.budget
    → Gains (λ c. c ≡ t) old new → AsksFor s p ts (one_answer (two (atom t) u)) old new
asks_atom s p ts t u old new fits gains =
    asks_given s p ts (two (atom t) u) 0 (λ c. c ≡ t) old new fits
    (λ c e. subst (λ x. Contains (texts_in_all (two (atom t) u)) x) (sym e) (contains_first t _)) gains

-- The same row of the definition.
pub asks_as : (s : Contents) (p : Proc) (ts : Trees) (row same : defined.Row) (old new : Option (List Chars)) → row ≡ same → AsksFor s p ts row old new → AsksFor s p ts same old new
asks_as s p ts row same old new e a = subst (λ (x : defined.Row). AsksFor s p ts x old new) e a

pub asks_nothing : (s : Contents) (p : Proc) (ts : Trees) (row : defined.Row) (old new : Option (List Chars)) → new ≡ old → AsksFor s p ts row old new
asks_nothing s p ts row old new e = gains_nothing (λ c. (next : ℕ) → next < 2 ^ 64 → Contains (given_texts (given p ts next s.used s.budget row)) c) old new e
