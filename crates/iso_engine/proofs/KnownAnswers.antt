-- A visit whose answer is known without a look.
use Rattle.std.proofs.Common.{◌≡◌, inl, [], Option, Some, None, Result, Ok, Err, ap, refl, sym, subst, ◌∙◌}
use Rattle.std.specs.Prelude.{IfNone, IfOk, IfSome, OnOk}
use Rattle.pl_term.specs.declared.memory.Memory.{Memory}
use Rattle.atom_api.specs.Names.{Names}
use Rattle.iso_search.specs.declared.search.Search.{Search}
use Rattle.iso_search.specs.Reading.{IsView}
use Rattle.iso_search.specs.Searching.{IsWhole}
use Rattle.world_api.specs.Texts.{Holds}
use Rattle.world_api.specs.Told.{Told}
use Rattle.iso_engine.specs.declared.engine.Engine.{Engine}
use Rattle.iso_engine.specs.declared.quick.Quick.{Quick}
use Rattle.iso_engine.specs.declared.quick.Quick.TheVariants.{Went, Missed, Other}
use Rattle.iso_engine.specs.Advancing.{Advances}
use Rattle.iso_engine.specs.Quick.{IsPassed, IsQuick}
use Rattle.iso_engine.specs.Ready.{IsReady}
use Rattle.iso_engine.specs.Spending.{IsSpent}
use Rattle.iso_engine.specs.Standing.{aims_of}
use Rattle.iso_engine.specs.Views.{view_of}
use Rattle.iso_engine.proofs.Stability.{advance_none, advance_step, spent_by, step_ready}

-- The same atoms are held
pub same_held : (m n : Names) → n ≡ m → Holds m n
same_held m n same a t e = ap (λ (x : Names). x a) same ∙ e

-- Where nothing has changed, what holds from there on holds from here on
pub from_there : (P : Names → Told → Search → Type 0) (m k : Names) (t u : Told) (e d : Search) → k ≡ m → u ≡ t → d ≡ e → P k u d → P m t e
from_there P m k t u e d names told search is =
    subst (λ (x : Names). P x t e) names (subst (λ (x : Told). P k x e) told (subst (λ (x : Search). P k u x) search is))

-- What was known of an answer, by whether there is one
pub where_none : {T : Type 0} (P : Type 0) (r : Option T) → r ≡ None → IfNone r P → P
where_none P None is h = h
where_none P (Some x) is h = absurd (cc)

pub where_some : {T : Type 0} (P : T → Type 0) (r : Option T) (x : T) → r ≡ Some x → IfSome r P → P x
where_some P r x is h = subst (λ o. IfSome o P) is h

-- The same of an engine whose search has not changed, and the other way round
pub from_engine : (P : Names → Told → Engine → Type 0) (m k : Names) (t u : Told) (e : Engine) (d : Search) → k ≡ m → u ≡ t → d ≡ e.search
    → (let x : Engine = record e { search = d } in P k u x) → P m t e
from_engine P m k t u e d names told search is =
    from_there (λ (m : Names) (t : Told) (s : Search). let x : Engine = record e { search = s } in P m t x) m k t u e.search d names told search is

pub to_engine : (P : Names → Told → Engine → Type 0) (m k : Names) (t u : Told) (e : Engine) (d : Search) → k ≡ m → u ≡ t → d ≡ e.search
    → P m t e → (let x : Engine = record e { search = d } in P k u x)
to_engine P m k t u e d names told search is =
    from_there (λ (m : Names) (t : Told) (s : Search). let x : Engine = record e { search = s } in P m t x) k m u t d e.search (sym names) (sym told) (sym search) is

-- Where nothing has changed, what holds of the engine from there on holds from here on, and the other way round
pub engine_there : (P : Names → Told → Engine → Type 0) (m k : Names) (t u : Told) (e d : Engine) → k ≡ m → u ≡ t → d ≡ e → P k u d → P m t e
engine_there P m k t u e d names told engine is =
    subst (λ (x : Names). P x t e) names (subst (λ (x : Told). P k x e) told (subst (λ (x : Engine). P k u x) engine is))

pub to_there : (P : Names → Told → Engine → Type 0) (m k : Names) (t u : Told) (e d : Engine) → k ≡ m → u ≡ t → d ≡ e → P m t e → P k u d
to_there P m k t u e d names told engine is = engine_there P k m u t d e (sym names) (sym told) (sym engine) is

-- A step that was not made at once
pub quick_still : (m n : Names) (t u : Told) (e f : Engine) (q : Quick) → (q ≡ Went → ⊥) → IsQuick m t e n u f q
    → Advances 0 m t e n u f [] × (f.search.inferences ≡ e.search.inferences)
quick_still m n t u e f Went not h = absurd (not refl)
quick_still m n t u e f Missed not h = h
quick_still m n t u e f Other not h = h

-- Where nothing has changed the engine stands where it stood
pub stands_still : (m n : Names) (t u : Told) (e f : Engine) → n ≡ m → u ≡ t → f ≡ e → Advances 0 m t e n u f [] × (f.search.inferences ≡ e.search.inferences)
stands_still m n t u e f names told engine =
    to_there (λ (x : Names) (y : Told) (z : Engine). Advances 0 m t e x y z [] × (z.search.inferences ≡ e.search.inferences)) m n t u e f names told engine (advance_none m t e, refl)

-- The engine after a task was passed, or not
pub passed_ready : (m : Names) (t : Told) (e f : Engine) (q : Quick) → IsPassed e f q → IsWhole f.search → IsView (view_of m t) → IsReady m t e → IsReady m t f
passed_ready m t e f Went h whole view ready = step_ready m t e f h whole view ready
passed_ready m t e f Missed h whole view ready = subst (λ (x : Engine). IsReady m t x) (sym h) ready
passed_ready m t e f Other h whole view ready = subst (λ (x : Engine). IsReady m t x) (sym h) ready

pub passed_spent : (m : Names) (t : Told) (e f : Engine) (q : Quick) → IsPassed e f q → IsView (view_of m t) → IsSpent e.search.inferences f.search.inferences
passed_spent m t e f Went h view = spent_by e.solution_limit e.solutions_found e.search e.doing f.search f.doing m t h view
passed_spent m t e f Missed h view = inl (ap (λ (x : Engine). x.search.inferences) h)
passed_spent m t e f Other h view = inl (ap (λ (x : Engine). x.search.inferences) h)

pub passed_quick : (m : Names) (t : Told) (e f : Engine) (q : Quick) → IsPassed e f q → f.search.budgets ≡ e.search.budgets → aims_of f ≡ aims_of e
    → f.solutions_found ≡ e.solutions_found → IsView (view_of m t) → IsQuick m t e m t f q
passed_quick m t e f Went h budgets wanted given view = advance_step m t e f h budgets wanted given view
passed_quick m t e f Missed h budgets wanted given view = stands_still m m t t e f refl refl h
passed_quick m t e f Other h budgets wanted given view = stands_still m m t t e f refl refl h

pub first_ready : (m : Names) (t : Told) (e f : Engine) (r : Result Quick Memory) → IfOk r (IsPassed e f) → OnOk r (IsWhole f.search) → IsView (view_of m t) → IsReady m t e
    → OnOk r (IsReady m t f)
first_ready m t e f (Ok q) h whole view ready = passed_ready m t e f q h whole view ready
first_ready m t e f (Err x) h whole view ready = tt

pub first_spent : (m : Names) (t : Told) (e f : Engine) (r : Result Quick Memory) → IfOk r (IsPassed e f) → IsView (view_of m t)
    → OnOk r (IsSpent e.search.inferences f.search.inferences)
first_spent m t e f (Ok q) h view = passed_spent m t e f q h view
first_spent m t e f (Err x) h view = tt

pub first_quick : (m : Names) (t : Told) (e f : Engine) (r : Result Quick Memory) → IfOk r (IsPassed e f) → OnOk r (f.search.budgets ≡ e.search.budgets)
    → OnOk r (f ≡ record e { search = f.search; doing = f.doing }) → IsView (view_of m t) → IfOk r (IsQuick m t e m t f)
first_quick m t e f (Ok q) h budgets kept view = passed_quick m t e f q h budgets (ap aims_of kept) (ap (λ (x : Engine). x.solutions_found) kept) view
first_quick m t e f (Err x) h budgets kept view = tt
