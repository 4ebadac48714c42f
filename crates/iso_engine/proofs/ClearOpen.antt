-- The clauses that retractall/1 has still to look at may be gone on with, and the atoms of its head are held, where an engine stands for
-- the same state by all views.
use Rattle.std.proofs.Common.{◌≡◌, ℕ, List, [], refl, sym, ap, ◌∙◌, IsSome}
use Rattle.std.specs.List.{All}
use Rattle.std.specs.Str.{all_scalars}
use Rattle.std.specs.Prelude.{◌^◌, ◌<◌, ◌≤◌, true, Some}
use Rattle.pl_term.specs.Texts.{size}
use Rattle.pl_term.specs.Tree.{Chars, Tree}
use Rattle.pl_model.specs.Database.{Stored}
use Rattle.pl_model.specs.History.{Clause}
use Rattle.pl_model.specs.Resolution.{clearing}
use Rattle.pl_model.specs.Resolution as resolution
use Rattle.atom_api.specs.Names.{FixedStand, Names}
use Rattle.term_store.specs.declared.words.Place.{Place}
use Rattle.term_store.specs.Contents.{term_at}
use Rattle.term_store.specs.NumberedNames.{atoms_in}
use Rattle.world_api.specs.Told.{Told}
use Rattle.iso_search.specs.declared.search.Search.{Search}
use Rattle.iso_search.specs.Reading.{IsView, View, reads}
use Rattle.iso_engine.specs.Clearing.{ClearsAt}
use Rattle.iso_engine.specs.Ready.{IsAlike, IsStable, MayGoOn}
use Rattle.iso_engine.specs.Views.{view_of}
use Rattle.iso_engine.specs.declared.doing.Doing.TheVariants.{Clearing}
use Rattle.iso_engine.specs.declared.doing.Left.{Left}
use Rattle.iso_engine.specs.declared.doing.Left.TheVariants.{After}
use Rattle.iso_engine.proofs.Alike.{alike_view}
use Rattle.iso_engine.proofs.ClearGoals.{clearing_is}
use Rattle.iso_engine.proofs.Held.{names_held}
use Rattle.iso_engine.proofs.Heldness.{held_names}
use Rattle.iso_engine.proofs.Later.{held_later}
use Rattle.iso_engine.proofs.Opening.{longer_by, longer_same, may_or, same_longer}

abbrev left_in : resolution.Doing → List (Stored Clause)
left_in (clearing h cs n) = cs
left_in x = []

abbrev head_in : Tree → resolution.Doing → Tree
head_in d (clearing h cs n) = h
head_in d x = d

-- The engine clears by the first task of the list.
module _ (m : Names) (t : Told) (e : Search) (list : ℕ) (head : Place) (rest g : ℕ) (clears : ClearsAt e list head rest) where
  module _ (place : ℕ) (stable : IsStable m t e (Clearing list g (After place))) (view : IsView (view_of m t)) where
    abbrev head_now : Tree
    head_now = reads (view_of m t) e.store head

    -- A view in which all other lists have one clause more.
    longer_view : View
    longer_view = record { names = m; all = (view_of m t).all; left = λ h k p. longer_by (may_or t h k p) ((view_of m t).left h k p) }

    longer_alike : IsAlike m t longer_view
    unfolding longer_view
    longer_alike = record { holds = λ a y h. h; all = λ h k may. refl; left = λ h k p may. longer_same (may_or t h k p) ((view_of m t).left h k p) may }

    longer_is : IsView longer_view
    unfolding longer_view
    longer_is = record { fixed = view.fixed; apart = view.apart }

    -- THE LIST may be gone on with.
    pub clear_open : MayGoOn t head_now g place
    unfolding longer_view
    clear_open =
        same_longer (may_or t head_now g place) ((view_of m t).left head_now g place)
        (ap left_in
        (sym (clearing_is longer_view e list head rest clears g (After place))
        ∙ (stable longer_view longer_is longer_alike).1
        ∙ clearing_is (view_of m t) e list head rest clears g (After place)))

  -- THE ATOMS OF THE HEAD are held.
  pub clear_held : (x : Left) → IsStable m t e (Clearing list g x) → FixedStand m
      → ((a b : ℕ) (y : Chars) → m a ≡ Some y → m b ≡ Some y → a ≡ b)
      → ((a : ℕ) (y : Chars) → m a ≡ Some y → (a < 2 ^ 32) × (size y ≤ 248) × (all_scalars y ≡ true))
      → All (λ a. IsSome (m a)) (atoms_in (term_at e.store head))
  clear_held x stable stands unlike finite =
      names_held m stands e.store head
      (held_names m stands unlike finite (term_at e.store head)
      (λ q fixes apart later.
      let other : IsView (view_of q t) = record { fixed = fixes; apart = apart }
      in let same = (stable (view_of q t) other (alike_view m q t t (held_later m q t later))).1
      in ap (head_in (reads (view_of m t) e.store head))
      (sym (clearing_is (view_of q t) e list head rest clears g x) ∙ same ∙ clearing_is (view_of m t) e list head rest clears g x)))
