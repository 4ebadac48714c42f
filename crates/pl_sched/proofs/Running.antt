-- An engine runs in its front where its end is not in what the front has seen.
use Rattle.std.proofs.Common.{◌≡◌, ℕ, ◌==◌, List, [], ◌∷◌, Bool, true, false, ◌&&◌, ◌||◌, not, refl, sym, ap, subst, ◌∙◌}
use Rattle.std.specs.Prelude.{if◌then◌else◌}
use Rattle.atomic_table.specs.Seated.{TableId}
use Rattle.pl_model.specs.History.{History, Kind, is_end, mine}
use Rattle.pl_history.specs.Fronts.{FrontState, Life, has_end, own_runs, own_updates}
use Rattle.pl_term.specs.Tree.{Tree}
use Rattle.atom_words.specs.declared.view.View.{View}
use Rattle.term_store.specs.declared.argument_key.ArgumentKey.{ArgumentKey}
use Rattle.world_api.specs.declared.answer.Answer.{Answer}
use Rattle.world_api.specs.declared.visit.Visit.{Visit}
use Rattle.world_api.specs.Told.{has_ended}
use Rattle.pl_hub.specs.Fronts.{IsOwn, told_of}
use Rattle.pl_hub.specs.Visits.{IsVisit}

ends_by : (b : Bool) (k : Kind) (ks : List Kind) (r : Bool) → has_end ks ≡ r → has_end (if b then k ∷ ks else ks) ≡ ((b && is_end k) || r)
ends_by true k ks r same = ap (λ (d : Bool). is_end k || d) same
ends_by false k ks r same = same

pub mine_ends : (h : History) (e : ℕ) → has_end (mine h e) ≡ has_ended e h
mine_ends [] e = refl
mine_ends (x ∷ xs) e = ends_by (x.engine == e) x.kind (mine xs e) (has_ended e xs) (mine_ends xs e)

not_true : (b : Bool) → not b ≡ true → b ≡ false
not_true true runs = absurd (cc)
not_true false runs = refl

runs_on : (ls : List Life) → own_runs ls ≡ true → has_end (own_updates ls) ≡ false
runs_on [] runs = absurd (cc)
runs_on (l ∷ ls) runs = not_true (has_end l.updates) runs

pub still_runs : {t : TableId} {e : ℕ} (goals : ℕ) (f : FrontState) → IsOwn t e f → has_ended (told_of goals f).engine (told_of goals f).history ≡ false
still_runs {t} {e} goals f own =
    subst (λ (d : ℕ). has_ended d f.seen ≡ false) (sym own.engine) (sym (mine_ends f.seen e) ∙ (sym (ap has_end own.updates) ∙ runs_on f.lives own.runs))

-- A visit that is the same by name, of the same front
pub same_visit : {table : TableId} {goals e : ℕ} {v w : View} {listed visit : Visit Tree ArgumentKey} {a : Answer Tree} {f was g hub new : FrontState}
    → listed ≡ visit → f ≡ was → IsVisit table goals e v w listed a f g hub new → IsVisit table goals e v w visit a was g hub new
same_visit {table} {goals} {e} {v} {w} {listed} {visit} {a} {f} {was} {g} {hub} {new} is same x =
    subst (λ (z : FrontState). IsVisit table goals e v w visit a z g hub new) same
    (subst (λ (y : Visit Tree ArgumentKey). IsVisit table goals e v w y a f g hub new) is x)
