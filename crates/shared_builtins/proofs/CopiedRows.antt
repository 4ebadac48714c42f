-- Copies of terms of the shared state.
use Rattle.std.proofs.Common.{◌≡◌, ℕ, zero, ◌+◌, ◌<◌, ◌≤◌, ◌^◌, [], ◌∷◌, ◌++◌, length, refl, sym, ap, ap₂, subst, ◌∙◌, IsSome, append-nil, arith}
use Rattle.std.specs.List.{All}
use Rattle.std.proofs.lemmas.List.Elements.{All-tail}
use Rattle.pl_term.specs.Cells.{cells}
use Rattle.pl_term.specs.Tree.{Tree}
use Rattle.pl_term.specs.Variables.{distinct, rename, variables}
use Rattle.pl_model.specs.BuiltinRows.{Answer, gives}
use Rattle.pl_model.specs.Predicates.{proc_of}
use Rattle.pl_model.specs.Terms.{arguments, variable_count}
use Rattle.atom_api.specs.Names.{Names, FixedStand}
use Rattle.builtin_rows.specs.Given.{given, with_room}
use Rattle.builtin_rows.specs.Rows.{ArePlaced, IsRow, Makes, listed, terms_at}
use Rattle.builtin_rows.specs.declared.row.Places.{Places}
use Rattle.builtin_rows.specs.declared.row.Row.TheVariants as rows
use Rattle.builtin_rows.proofs.Giving.{gives_one}
use Rattle.builtin_rows.proofs.Numbers.{has_room}
use Rattle.pl_model.specs.History.{proc}
use Rattle.term_store.specs.declared.words.Place.{Place}
use Rattle.term_store.specs.Contents.{Adds, Builds, Contents, numbers_of, term_at, upwards}
use Rattle.term_store.specs.KeptLaws.{cells-spelled}
use Rattle.term_store.specs.NameUnification.{occurrences-spelled, rename-spelled}
use Rattle.term_store.specs.NumberedNames.{names_of, neck, term_by, text_by}
use Rattle.term_store.specs.NumberedNames as stored
use Rattle.world_api.specs.Texts as worlds
use Rattle.world_builtins.specs.Naming.{IsHeldAt, atoms_in}
use Rattle.world_builtins.specs.Spelling.{reads}
use Rattle.shared_builtins.specs.declared.goal.StateGoal.{StateGoal}
use Rattle.shared_builtins.specs.Goals.{IsStateGoal, arity_of}
use Rattle.shared_builtins.proofs.OverAtoms.{IsOverAtoms}
use Rattle.shared_builtins.proofs.Reading.{naming_atoms-renamed, read_over}
use Rattle.shared_builtins.proofs.ReplyRows.{goal_proc}

pub counted : (m : Names) (t : Tree) → variable_count (term_by (worlds.text_of m) t) ≡ length (variables t)
counted m t = ap (λ xs. length (distinct xs)) (occurrences-spelled (text_by (worlds.text_of m)) t)

pub sized : (m : Names) (t : Tree) → cells (term_by (worlds.text_of m) t) ≡ cells t
sized m t = cells-spelled (text_by (worlds.text_of m)) t

-- Cells were taken, and then the copy was made.
pub room_made : (s t : Contents) (next k : ℕ) → t ≡ record s { used = s.used + k } → Makes s next zero k t
room_made s t next k e =
    subst (Makes s next zero k) (sym e)
    (record {
      others = λ p held. refl;
      adds =
          record {
            places = λ p held. held;
            marks = λ m mark. record { within = mark.within; used = omega (arith, mark.used); fit = mark.fit };
            back = λ m mark. refl;
          };
      numbers = sym (append-nil (numbers_of s));
      used = refl;
      budget = refl;
    })

pub copy_made : (s t u : Contents) (next f k : ℕ) (kept : Tree) (p : Place) → Makes s next zero k t → Builds t next kept u p → Adds t u → length (variables kept) ≡ f
    → Makes s next f k u
copy_made s t u next f k kept p x b adds e =
    record {
      others = λ q held. b.others q (x.adds.places q held) ∙ x.others q held;
      adds =
          record {
            places = λ q held. adds.places q (x.adds.places q held);
            marks = λ m mark. adds.marks m (x.adds.marks m mark);
            back = λ m mark. adds.back m (x.adds.marks m mark) ∙ x.adds.back m mark;
          };
      numbers =
          b.numbers ∙ ap₂ (λ ns j. ns ++ upwards next j) (x.numbers ∙ append-nil (numbers_of s)) e;
      used = b.used ∙ x.used;
      budget = b.budget ∙ x.budget;
    }

-- The copy, read, and its atoms.
pub copy_read : (m : Names) → FixedStand m → (u : Contents) (p : Place) (next : ℕ) (kept : Tree) → term_at u p ≡ rename next kept → IsOverAtoms (term_at u p)
    → reads m u p ≡ rename next (term_by (worlds.text_of m) kept)
copy_read m stands u p next kept is over =
    sym (read_over m stands (term_at u p) over) ∙ ap (term_by (worlds.text_of m)) is ∙ sym (rename-spelled (text_by (worlds.text_of m)) next kept)

pub copy_held : (m : Names) (u : Contents) (p : Place) (next : ℕ) (kept : Tree) → term_at u p ≡ rename next kept → All (λ a. IsSome (m a)) (names_of kept) → IsHeldAt m u p
copy_held m u p next kept is held =
    let P = λ (a : ℕ). IsSome (m a) in
    subst (λ t. All P (atoms_in t)) (sym is) (subst (All P) (sym (naming_atoms-renamed _ kept)) (All-tail P neck (stored.atoms_in kept) held))

-- The row

pub made_row : (m : Names) → FixedStand m → (s t : Contents) (x : StateGoal) → IsStateGoal s x → (next : ℕ) (a : Answer) (ps : Places) (fresh : ℕ) → a.terms ≡ terms_at m t (listed ps)
    → fresh ≡ a.fresh → Makes s next a.fresh a.made t → ArePlaced m t (listed ps) → next + a.fresh < 2 ^ 64 → s.used + a.made ≤ s.budget
    → IsRow s next (arguments (reads m s x.place)) (given (proc_of (reads m s x.place)) (arguments (reads m s x.place)) next s.used s.budget (gives (a ∷ []))) m t (rows.Answer ps fresh)
made_row m stands s t x is next a ps fresh terms e makes placed few fits =
    let us = arguments (reads m s x.place) in
    subst (λ d. IsRow s next us d m t (rows.Answer ps fresh))
    (sym (gives_one (proc_of (reads m s x.place)) us next s.used s.budget a ∙ ap (λ p. with_room p next s.used s.budget a) (goal_proc m stands s x is)
    ∙ has_room (proc is.predicate.0.0 (arity_of x.pred)) next s.used s.budget a few fits))
    (ap (λ ts. ts ∷ []) terms, (e, (makes, placed)))

pub full_room : (m : Names) → FixedStand m → (s : Contents) (x : StateGoal) (is : IsStateGoal s x) (next : ℕ) (a : Answer)
    → given (proc_of (reads m s x.place)) (arguments (reads m s x.place)) next s.used s.budget (gives (a ∷ []))
    ≡ with_room (proc is.predicate.0.0 (arity_of x.pred)) next s.used s.budget a
full_room m stands s x is next a =
    gives_one (proc_of (reads m s x.place)) (arguments (reads m s x.place)) next s.used s.budget a ∙ ap (λ p. with_room p next s.used s.budget a) (goal_proc m stands s x is)
