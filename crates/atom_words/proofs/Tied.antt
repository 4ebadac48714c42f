-- What a seat keeps at run time stays tied to its view.
use Rattle.std.proofs.Common.{◌≡◌, ◌≢◌, ℕ, ◌<◌, ◌≤◌, [], ◌∷◌, ◌++◌, refl, sym, ap, ◌∙◌, subst, ⊎_elim, Option, Some, None, Result, Ok, Err, option_map}
use Rattle.atom_words.specs.Layout.{closed_of, version_of}
use Rattle.atom_words.specs.Board.{head_at}
use Rattle.atom_words.specs.Kinds.{next_first, next_counted, counting, rising, after}
use Rattle.atom_words.specs.Seats.{Raises, Unchanged}
use Rattle.atom_words.specs.Ties.{own_slot, walk_head, walk_word, pass_began, pass_first, pass_counted, OwnTied, WalkTied, PassTied}
use Rattle.atom_words.specs.declared.size.Size.{Size}
use Rattle.atom_words.specs.declared.view.Own.{Own}
use Rattle.atom_words.specs.declared.view.Walk.{Walk}
use Rattle.atom_words.specs.declared.view.Passing.{Passing}
use Rattle.atom_words.specs.declared.view.View.{View}
use Rattle.atom_words.specs.declared.kind.Kind.TheVariants.{Load, Raise, Risen}

-- views that agree on the own slot, the walk or the pass are tied alike
pub own_tied : (v w : View) (own : ℕ) → w ≡ v → OwnTied v own → OwnTied w own
own_tied v w own e = subst (λ y. OwnTied y own) (sym e)

pub walk_tied : (v w : View) (head word : ℕ) → w ≡ v → WalkTied v head word → WalkTied w head word
walk_tied v w head word e = subst (λ y. WalkTied y head word) (sym e)

pub pass_tied : (v w : View) (began first counted : ℕ) → w ≡ v → PassTied v began first counted → PassTied w began first counted
pass_tied v w began first counted e = subst (λ y. PassTied y began first counted) (sym e)

-- the number of the own slot stays as words are put
pub own_put : (f : Own → Own) (o : Option Own) (d : ℕ) → ((x : Own) → (f x).slot ≡ x.slot) → own_slot d o ≡ d → own_slot d (option_map f o) ≡ d
own_put f None d same e = e
own_put f (Some x) d same e = same x ∙ e

pub walk_head_on : (f : Walk → Walk) (o : Option Walk) (d : ℕ) → ((x : Walk) → (f x).head ≡ x.head) → walk_head d o ≡ d → walk_head d (option_map f o) ≡ d
walk_head_on f None d same e = e
walk_head_on f (Some x) d same e = same x ∙ e

pub walk_word_on : (f : Walk → Walk) (o : Option Walk) (d : ℕ) → ((x : Walk) → (f x).word ≡ x.word) → walk_word d o ≡ d → walk_word d (option_map f o) ≡ d
walk_word_on f None d same e = e
walk_word_on f (Some x) d same e = same x ∙ e

-- a pass counts on
pub pass_on : (slots k : ℕ) (o : Option Passing) (b f c : ℕ) → (pass_began b o ≡ b) × (pass_first f o ≡ f) × (pass_counted c o ≡ c)
    → (pass_began b (option_map (counting slots k) o) ≡ b) × (pass_first (next_first k f c) (option_map (counting slots k) o) ≡ next_first k f c) × (pass_counted (next_counted slots k f c) (option_map (counting slots k) o) ≡ next_counted slots k f c)
pass_on slots k None b f c e = (refl, refl, refl)
pass_on slots k (Some p) b f c e = (e.0, (λ i. next_first k (e.1 i) (e.2 i)), (λ i. next_counted slots k (e.1 i) (e.2 i)))

-- views that agree in part
pub same_owns : (v w : View) (own : ℕ) → w.own ≡ v.own → w.size ≡ v.size → OwnTied v own → OwnTied w own
same_owns v w own e z t = (ap (own_slot own) e ∙ t.0, subst (λ (y : Size). own < y.slots) (sym z) t.1)

pub same_walks : (v w : View) (head word : ℕ) → w.walk ≡ v.walk → w.size ≡ v.size → WalkTied v head word → WalkTied w head word
same_walks v w head word e z t = (ap (walk_head head) e ∙ t.0, ap (walk_word word) e ∙ t.1, subst (λ (y : Size). head < y.heads) (sym z) t.2)

pub same_passes : (v w : View) (began first counted : ℕ) → w.pass ≡ v.pass → PassTied v began first counted → PassTied w began first counted
same_passes v w began first counted e t = (ap (pass_began began) e ∙ t.0, ap (pass_first first) e ∙ t.1, ap (pass_counted counted) e ∙ t.2)

-- a raise of a head's version leaves the view
pub raises_unchanged : (h : ℕ) (v : View) (r : Result (Unit {0}) ℕ) (w : View) → Raises h v r w → Unchanged v w
raises_unchanged h v (Ok _) w e = ⊎_elim
    (λ (t : (v.size.start ≤ version_of e.0) × (w ≡ after v (Risen h e.0 ∷ []))). ((v.made ++ Risen h e.0 ∷ []), rising h v.risen, t.1))
    (λ (t : (version_of e.0 < v.size.start) × (w ≡ after v (Load (head_at v.size h) e.0 ∷ Raise h ∷ []))). (((v.made ++ Load (head_at v.size h) e.0 ∷ []) ++ Raise h ∷ []), rising h v.risen, t.1))
    e.1
raises_unchanged h v (Err y) w e = ⊎_elim
    (λ (t : (closed_of y ≢ 0) × (version_of y < v.size.start) × (w ≡ after v (Load (head_at v.size h) y ∷ []))). ((v.made ++ Load (head_at v.size h) y ∷ []), v.risen, t.2))
    (λ (t : (x : ℕ) × (version_of x < v.size.start) × (y ≢ x) × (w ≡ after v (Load (head_at v.size h) x ∷ Load (head_at v.size h) y ∷ []))). (((v.made ++ Load (head_at v.size h) t.0 ∷ []) ++ Load (head_at v.size h) y ∷ []), v.risen, t.3))
    e

-- a head whose version was raised is known to have risen
pub raises_rising : (h : ℕ) (v : View) (a : Unit {0}) (w : View) → Raises h v (Ok a) w → w.risen ≡ rising h v.risen
raises_rising h v a w e = ⊎_elim
    (λ (t : (v.size.start ≤ version_of e.0) × (w ≡ after v (Risen h e.0 ∷ []))). ap (λ (y : View). y.risen) t.1)
    (λ (t : (version_of e.0 < v.size.start) × (w ≡ after v (Load (head_at v.size h) e.0 ∷ Raise h ∷ []))). ap (λ (y : View). y.risen) t.1)
    e.1
