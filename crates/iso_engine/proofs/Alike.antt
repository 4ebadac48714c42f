-- Views by which an engine may be read from then on.
use Rattle.std.proofs.Common.{◌≡◌, ℕ, ◌≤◌, [], ◌∷◌, ◌++◌, length, Option, refl, sym, ap, ap₂, subst, ◌∙◌, arith, length-append}
use Rattle.std.specs.List.{Contains}
use Rattle.pl_term.specs.Tree.{Tree}
use Rattle.std.proofs.lemmas.List.Elements.{Contains-append_left}
use Rattle.pl_model.specs.History.{History, Kind}
use Rattle.pl_model.specs.Service.{entry_by}
use Rattle.atom_api.specs.Names.{Names}
use Rattle.world_api.specs.Told.{Told, behind, clause_list, has_place}
use Rattle.world_api.specs.Answers.{seen_as}
use Rattle.iso_search.specs.Reading.{View}
use Rattle.iso_engine.proofs.LaterLists.{list_later}
use Rattle.iso_engine.specs.Views.{IsLater, view_of}
use Rattle.iso_engine.specs.Ready.{IsAlike, MayBegin, MayGoOn}

pub alike_itself : (m : Names) (t : Told) → IsAlike m t (view_of m t)
alike_itself m t = record { holds = λ a x h. h; all = λ goal g may. refl; left = λ goal g place may. refl }

-- The engine's visits are still its visits.
abbrev pub KeepsVisits : Told → Told → Type 0
KeepsVisits t u = (g : ℕ) → Contains t.gens g → Contains u.gens g

module _ (m n : Names) (t u : Told) (later : IsLater m t n u) where
  -- The list is as it was told.
  pub list_same : (goal : Tree) (g : ℕ) → g ≤ length t.history → clause_list u.goals u.history g goal ≡ clause_list t.goals t.history g goal
  list_same goal g within =
      ap₂ (λ k h. clause_list k h g goal) later.goals later.grown ∙ list_later t.goals t.history later.later g goal within

  pub longer : length t.history ≤ length u.history
  longer =
      let same = ap (λ (h : History). length h) later.grown ∙ length-append t.history later.later in omega (arith, same)

  pub alike_view : IsAlike m t (view_of n u)
  alike_view = record { holds = later.holds; all = λ goal g may. list_same goal g may.within; left = λ goal g place may. ap (behind place) (list_same goal g may.listed.within) }

  module _ (visits : KeepsVisits t u) where
    pub may_later : (goal : Tree) (g place : ℕ) → MayGoOn t goal g place → MayGoOn u goal g place
    may_later goal g place may =
        record {
          callable = may.callable;
          listed =
              record {
                own = visits g may.listed.own;
                within = (let a = may.listed.within in let b = longer in omega (arith, a, b));
                among = ap (has_place place) (list_same goal g may.listed.within) ∙ may.listed.among;
              };
        }

    begin_later : (goal : Tree) (g : ℕ) → MayBegin t goal g → MayBegin u goal g
    begin_later goal g may =
        record { own = visits g may.own; within = (let a = may.within in let b = longer in omega (arith, a, b)) }

    pub alike_later : (v : View) → IsAlike n u v → IsAlike m t v
    alike_later v alike =
        record {
          holds = λ a x h. alike.holds a x (later.holds a x h);
          all = λ goal g may. alike.all goal g (begin_later goal g may) ∙ list_same goal g may.within;
          left = λ goal g place may.
              alike.left goal g place (may_later goal g place may) ∙ ap (behind place) (list_same goal g may.listed.within);
        }

pub visits_same : (t u : Told) → u.gens ≡ t.gens → KeepsVisits t u
visits_same t u is g own = subst (λ gs. Contains gs g) (sym is) own

pub visits_more : (t u : Told) (before : History) (update : Option Kind)
    → u ≡ seen_as t (before ++ entry_by t.engine update) (t.gens ++ length before ∷ []) → KeepsVisits t u
visits_more t u before update told g own =
    subst (λ gs. Contains gs g) (sym (ap (λ (x : Told). x.gens) told)) (Contains-append_left t.gens (length before ∷ []) g own)
