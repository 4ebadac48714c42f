-- How the search of an engine has ended.
use Rattle.std.proofs.Common.{◌≡◌, ◌<◌, ◌≤◌, ◌^◌, ℕ, true, [], ◌∷◌, ◌++◌, IsSome, Some, codes, is_some, refl, sym, ap, ◌∙◌}
use Rattle.std.specs.List.{All}
use Rattle.std.proofs.lemmas.List.Elements.{All-append, All-cons, All-nil}
use Rattle.std.specs.Str.{all_scalars}
use Rattle.pl_term.specs.Texts.{size}
use Rattle.pl_term.specs.Tree.{Chars, Tree, Trees, var, int, atom, comp, none, more}
use Rattle.pl_model.specs.Resolution.{Ending, solved, no_more, threw, exited, halted, running, failing, throwing, erasing, clearing, answering, ended}
use Rattle.pl_model.specs.Resolution as resolution
use Rattle.atom_api.specs.Names.{FixedStand, Names}
use Rattle.term_store.specs.declared.words.Place.{Place}
use Rattle.term_store.specs.Contents.{Contents, term_at}
use Rattle.pl_model.specs.declared.ends.How.{How}
use Rattle.pl_model.specs.declared.ends.How.TheVariants as how
use Rattle.run_model.specs.Lawful.{EndsSo}
use Rattle.world_api.specs.Told.{Told}
use Rattle.world_builtins.specs.Naming.{IsHeldAt, atoms_in, atoms_in_all, number_of}
use Rattle.world_builtins.specs.Spelling.{spelled as spells, text_of as texts_by}
use Rattle.iso_search.specs.Reading.{IsView, View}
use Rattle.iso_search.specs.Spelling as spelling
use Rattle.iso_engine.specs.declared.doing.End.{End}
use Rattle.iso_engine.specs.declared.doing.End.TheVariants.{Threw, Halted, Exited}
use Rattle.iso_engine.specs.declared.doing.Doing.TheVariants.{Ended}
use Rattle.iso_engine.specs.declared.engine.Engine.{Engine}
use Rattle.iso_engine.specs.Views.{view_of}
use Rattle.iso_engine.specs.Ready.{IsAlike, IsReady}
use Rattle.iso_engine.specs.Standing.{doing_of, ending_of}
use Rattle.iso_engine.proofs.Heldness.{IsHeldName, held_names}
use Rattle.iso_engine.proofs.Answered.{zero_text}
use Rattle.iso_engine.proofs.Naming.{AllNames, AllNamesIn, IsShort, names_short}
use Rattle.engine_run.specs.Endings.{HasEndedAs}
use Rattle.engine_run.proofs.Answered.{spelled_same}

-- The atoms of a term whose names are held.

module _ (m : Names) (first : IsSome (m 0)) where
  name_held : (f : Chars) → IsShort f → IsHeldName m f → IsSome (m (number_of f))
  name_held [] s h = first
  name_held (a ∷ []) s h = h
  name_held (a ∷ (b ∷ bs)) s h = absurd s

  mutual
    all_held : (t : Tree) → AllNames IsShort t → AllNames (IsHeldName m) t → All (λ a. IsSome (m a)) (atoms_in t)
    all_held (var x) s h = All-nil (λ a. IsSome (m a))
    all_held (int i) s h = All-nil (λ a. IsSome (m a))
    all_held (atom f) s h = All-cons (λ a. IsSome (m a)) (number_of f) [] (name_held f s h) (All-nil (λ a. IsSome (m a)))
    all_held (comp f t ts) s h =
        All-cons (λ a. IsSome (m a)) (number_of f) (atoms_in t ++ atoms_in_all ts) (name_held f s.0 h.0)
        (All-append (λ a. IsSome (m a)) (atoms_in t) (atoms_in_all ts) (all_held t s.1.0 h.1.0) (all_held_in ts s.1.1 h.1.1))

    all_held_in : (ts : Trees) → AllNamesIn IsShort ts → AllNamesIn (IsHeldName m) ts → All (λ a. IsSome (m a)) (atoms_in_all ts)
    all_held_in none s h = All-nil (λ a. IsSome (m a))
    all_held_in (more t ts) s h = All-append (λ a. IsSome (m a)) (atoms_in t) (atoms_in_all ts) (all_held t s.0 h.0) (all_held_in ts s.1 h.1)

abbrev ball_in : Tree → resolution.Doing → Tree
ball_in b (running n) = b
ball_in b failing = b
ball_in b (throwing c ps) = b
ball_in b (erasing place n) = b
ball_in b (clearing t cs n) = b
ball_in b answering = b
ball_in b (ended how) = of how
  where
    of : Ending → Tree
    of solved = b
    of no_more = b
    of (threw c) = c
    of (exited c) = c
    of (halted n) = b

-- Each atom of a term with which a search has ended is held.
end_held : (m : Names) → FixedStand m → ((a b : ℕ) (x : Chars) → m a ≡ Some x → m b ≡ Some x → a ≡ b)
    → ((a : ℕ) (x : Chars) → m a ≡ Some x → (a < 2 ^ 32) × (size x ≤ 248) × (all_scalars x ≡ true))
    → (t : Told) (e : Engine) (end : End) (s : Contents) (p : Place)
    → e.doing ≡ Ended end
    → ((v : View) → ball_in (term_at s p) (ended (ending_of v end)) ≡ spelling.spelled (spelling.text_of v.names) (term_at s p))
    → IsReady m t e
    → IsHeldAt m s p
end_held m stands unlike finite t e end s p doing ball ready =
    let b = term_at s p
    in let names : AllNames (IsHeldName m) b =
    held_names m stands unlike finite b
    (λ q fixes apart later.
    let view : IsView (view_of q t) = record { fixed = fixes; apart = apart }
    in let alike : IsAlike m t (view_of q t) = record { holds = later; all = λ goal g may. refl; left = λ goal g place may. refl }
    in let same = (ready.stable (view_of q t) view alike).1
    in sym (ball (view_of q t)) ∙ ap (ball_in b) (sym (ap (doing_of (view_of q t) e.search) doing) ∙ same ∙ ap (doing_of (view_of m t) e.search) doing) ∙ ball (view_of m t))
    in all_held m (ap is_some (stands 0 (codes "!") zero_text)) b (names_short s p) names

-- Each atom of a ball that nobody caught is held.
pub ball_held : (m : Names) → FixedStand m → ((a b : ℕ) (x : Chars) → m a ≡ Some x → m b ≡ Some x → a ≡ b)
    → ((a : ℕ) (x : Chars) → m a ≡ Some x → (a < 2 ^ 32) × (size x ≤ 248) × (all_scalars x ≡ true))
    → (t : Told) (e : Engine) (end : End) (s : Contents) (p : Place)
    → e.doing ≡ Ended end
    → end ≡ Threw (term_at s p)
    → IsReady m t e
    → IsHeldAt m s p
ball_held m stands unlike finite t e end s p doing thrown ready =
    end_held m stands unlike finite t e end s p doing (λ v. ap (λ (x : End). ball_in (term_at s p) (ended (ending_of v x))) thrown) ready

-- And each atom of what a thread left with.
pub left_held : (m : Names) → FixedStand m → ((a b : ℕ) (x : Chars) → m a ≡ Some x → m b ≡ Some x → a ≡ b)
    → ((a : ℕ) (x : Chars) → m a ≡ Some x → (a < 2 ^ 32) × (size x ≤ 248) × (all_scalars x ≡ true))
    → (t : Told) (e : Engine) (end : End) (s : Contents) (p : Place)
    → e.doing ≡ Ended end
    → end ≡ Exited (term_at s p)
    → IsReady m t e
    → IsHeldAt m s p
left_held m stands unlike finite t e end s p doing left ready =
    end_held m stands unlike finite t e end s p doing (λ v. ap (λ (x : End). ball_in (term_at s p) (ended (ending_of v x))) left) ready

-- The state has ended as the engine says.
pub ends_as : (m : Names) (e : Engine) (end : End) (how : How Tree) → e.doing ≡ Ended end
    → ((t : Told) → EndsSo (ending_of (view_of m t) end) how) → HasEndedAs m e how
ends_as m e end how is so t written = (ending_of (view_of m t) end, ap (doing_of (view_of m t) e.search) is, so t)

pub throws_so : (m : Names) (e : Engine) (end : End) (b f : Tree) → e.doing ≡ Ended end → end ≡ Threw b
    → f ≡ spells (texts_by m) b → HasEndedAs m e (how.Threw f)
throws_so m e end b f is thrown same =
    ends_as m e (Threw b) (how.Threw f) (is ∙ ap Ended thrown) (λ t. spelled_same m b ∙ sym same)

pub halts_so : (m : Names) (e : Engine) (end : End) (k : ℕ) → e.doing ≡ Ended end → end ≡ Halted k → HasEndedAs m e (how.Halted k)
halts_so m e end k is halts = ends_as m e (Halted k) (how.Halted k) (is ∙ ap Ended halts) (λ t. refl)

pub exits_so : (m : Names) (e : Engine) (end : End) (b f : Tree) → e.doing ≡ Ended end → end ≡ Exited b
    → f ≡ spells (texts_by m) b → HasEndedAs m e (how.Exited f)
exits_so m e end b f is left same =
    ends_as m e (Exited b) (how.Exited f) (is ∙ ap Ended left) (λ t. spelled_same m b ∙ sym same)
