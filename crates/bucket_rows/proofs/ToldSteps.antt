-- What the collector was told of a slot holds as it passes it.
use Rattle.std.proofs.Common.{◌≡◌, ◌≢◌, ◌⊎◌, ℕ, zero, suc, ◌≤◌, false, List, [], ◌∷◌, ◌++◌, set, get_or, refl, sym, ap, ◌∙◌, subst, inl, inr, ⊎_elim, arith, Some, None}
use mathlib.Core.Option.{some}
use lib.ListN.{get_elem?}
use Rattle.atomic_table.proofs.Lists.{at_set, at_snoc}
use Rattle.atom_words.specs.Layout.{phase_of}
use Rattle.atom_words.specs.Board.{Board, atom_at}
use Rattle.atom_words.specs.Kinds.{looking, freeing, Scanning, view_after, Does}
use Rattle.atom_words.specs.Views.{newcomer, spent, with_keeper}
use Rattle.atom_words.specs.Rule.{Cut, keeper, collector, engine, Goes, Moves, goes, makes, joins, splits, Reached}
use Rattle.atom_words.specs.Kept.{Kept}
use Rattle.atom_words.specs.declared.size.Size.{Size}
use Rattle.atom_words.specs.declared.view.Sweeping.{Sweeping}
use Rattle.atom_words.specs.declared.view.View.{View}
use Rattle.atom_words.specs.declared.kind.Kind.{Kind}
use Rattle.atom_words.specs.declared.kind.Kind.TheVariants.{Raise, Risen, Reserve, Measure, PutWord, Fill, PutLink, Link, Validate, Release, Load, Refused, Start, Read, Next, Skip, Hold, Keep, Fix, StartPass, EndPass, Refuse, Barred, Ask, Protect, Fetch, Register, Unregister, Split, Join, Begin, Mark, Scan, Ack, Check, ToSweep, Look, Spell, Condemn, PassOver, Behind, UnlinkAt, UnlinkHead, Note, Bump, Past, Free, End, Aim, Sound, Close, Emptied, Pick, MoveHead, MoveLink, LeaveHead, LeaveLink, PublishRow, Publish}
use Rattle.atom_words.proofs.Regions.{atom_read}
use Rattle.atom_words.proofs.Slices.{some_same, last_same}
use Rattle.atom_words.proofs.Puts.{unmapped}
use Rattle.atom_words.proofs.Every.{keep_move, reached_kept}
use Rattle.bucket_rows.specs.TwoCycles.{Calm, CalmMove, Leads, NoneReserved, Tells, Told, ToldCalm, ToldMove, LeadsTold}
use Rattle.bucket_rows.proofs.TwoCycles.{all_leads}

-- in a sweep, what the collector's last step told is so
abbrev Knows : Size → Board → List View → Type 0
Knows z b vs = phase_of b.epoch ≡ 2 → (id : ℕ) (v : View) (y : Sweeping) → get_elem? vs id ≡ some v → v.gone ≡ false → v.sweep ≡ Some y → Told z y.cursor v → get_or b.atoms y.cursor 0 ≢ 3

-- each step is put down
made_after : (v : View) (kind : Kind) → (view_after v kind).made ≡ v.made ++ kind ∷ []
made_after v Link = refl
made_after v _ = refl

-- a seat whose last step was k
last_told : (z : Size) (c : ℕ) (v : View) (front : List Kind) (k : Kind) → v.made ≡ front ++ k ∷ [] → Told z c v → Tells z c k
last_told z c v front k is t = subst (Tells z c) (last_same t.0 front t.1 k (sym t.2 ∙ is)) t.3

-- a calm step leaves the atom words and the epoch word; or it is the collector's; or a scan
abbrev Effect : Board → Board → View → Type 0
Effect b b' v = ((b'.atoms ≡ b.atoms) × (b'.epoch ≡ b.epoch)) ⊎ (((y : Sweeping) × (v.sweep ≡ Some y)) ⊎ (Scanning v × (b'.epoch ≡ b.epoch)))

leaves : (b b' : Board) (v : View) → b' ≡ b → Effect b b' v
leaves b b' v e = inl (ap (λ (x : Board). x.atoms) e, ap (λ (x : Board). x.epoch) e)

effect : (z : Size) (b b' : Board) (v : View) → v.own ≡ None → (kind : Kind) → Calm v kind → Does z b v kind b' → Effect b b' v
effect z b b' v none (Reserve k) calm d = absurd calm
effect z b b' v none (Protect k x) calm d = absurd calm
effect z b b' v none (Fetch k) calm d = absurd calm
effect z b b' v none (Register a) calm d = absurd calm
effect z b b' v none (Unregister k) calm d = absurd calm
effect z b b' v none Validate calm d = absurd (let some_ : None ≡ Some d.0 = sym none ∙ d.1 in cc)
effect z b b' v none Release calm d = absurd (let some_ : None ≡ Some d.0 = sym none ∙ d.1 in cc)
effect z b b' v none (Measure x) calm d = leaves b b' v d.5
effect z b b' v none Fill calm d = leaves b b' v d.4
effect z b b' v none (PutWord x) calm d = inl (ap (λ (x : Board). x.atoms) d.4, ap (λ (x : Board). x.epoch) d.4)
effect z b b' v none (PutLink l) calm d = inl (ap (λ (x : Board). x.atoms) d.3, ap (λ (x : Board). x.epoch) d.3)
effect z b b' v none Link calm d = inl (ap (λ (x : Board). x.atoms) d.12, ap (λ (x : Board). x.epoch) d.12)
effect z b b' v none (Raise h) calm d = inl (ap (λ (x : Board). x.atoms) d.4, ap (λ (x : Board). x.epoch) d.4)
effect z b b' v none (Risen h x) calm d = leaves b b' v d.3
effect z b b' v none (Load i x) calm d = leaves b b' v d.1
effect z b b' v none (Refused i a f) calm d = leaves b b' v d.3
effect z b b' v none (Start h x) calm d = leaves b b' v d.3
effect z b b' v none (Read x) calm d = leaves b b' v d.6
effect z b b' v none (Next x) calm d = leaves b b' v d.5
effect z b b' v none (Skip x) calm d = leaves b b' v d.7
effect z b b' v none Hold calm d = leaves b b' v d.8
effect z b b' v none (Keep those) calm d = leaves b b' v d.1
effect z b b' v none Fix calm d = leaves b b' v d.1
effect z b b' v none (StartPass x) calm d = leaves b b' v d.1
effect z b b' v none (EndPass x) calm d = leaves b b' v d.3
effect z b b' v none (Refuse c) calm d = leaves b b' v d.1
effect z b b' v none (Barred h x) calm d = leaves b b' v d.3
effect z b b' v none (Ask t) calm d = leaves b b' v d
effect z b b' v none (Mark x those) calm d = leaves b b' v d.5
effect z b b' v none Ack calm d = inl (ap (λ (x : Board). x.atoms) d.2, ap (λ (x : Board). x.epoch) d.2)
effect z b b' v none (Scan k) calm d = inr (inr (d.0, ap (λ (x : Board). x.epoch) d.4))
effect z b b' v none Begin calm d = inr (inl (d.0, d.1))
effect z b b' v none (Check e) calm d = inr (inl (d.0, d.1))
effect z b b' v none ToSweep calm d = inr (inl (d.0, d.1))
effect z b b' v none (Look x) calm d = inr (inl (d.0, d.1.0))
effect z b b' v none (Spell x) calm d = inr (inl (d.0, d.1.0))
effect z b b' v none Condemn calm d = inr (inl (d.0, d.2.0))
effect z b b' v none (PassOver x) calm d = inr (inl (d.0, d.1.0))
effect z b b' v none (Behind x) calm d = inr (inl (d.0, d.1.0.0))
effect z b b' v none (UnlinkAt q) calm d = inr (inl (d.0, d.3.0.0))
effect z b b' v none UnlinkHead calm d = inr (inl (d.0, d.3.0.0))
effect z b b' v none (Note x) calm d = inr (inl (d.0, d.1.0.0))
effect z b b' v none Bump calm d = inr (inl (d.0, d.2.0.0))
effect z b b' v none (Past x) calm d = inr (inl (d.0, d.2.0.0))
effect z b b' v none Free calm d = inr (inl (d.0, d.1.0.0))
effect z b b' v none End calm d = inr (inl (d.0, d.1.0))
effect z b b' v none (Aim row) calm d = inl (ap (λ (x_ : Board). x_.atoms) d.3, ap (λ (x_ : Board). x_.epoch) d.3)
effect z b b' v none (Sound x) calm d = inl (ap (λ (x_ : Board). x_.atoms) d.6, ap (λ (x_ : Board). x_.epoch) d.6)
effect z b b' v none (Close h) calm d = inl (ap (λ (x_ : Board). x_.atoms) d.5, ap (λ (x_ : Board). x_.epoch) d.5)
effect z b b' v none Emptied calm d = inl (ap (λ (x_ : Board). x_.atoms) d.4, ap (λ (x_ : Board). x_.epoch) d.4)
effect z b b' v none (Pick a before) calm d = inl (ap (λ (x_ : Board). x_.atoms) d.9, ap (λ (x_ : Board). x_.epoch) d.9)
effect z b b' v none (MoveHead h) calm d = inl (ap (λ (x_ : Board). x_.atoms) d.6, ap (λ (x_ : Board). x_.epoch) d.6)
effect z b b' v none (MoveLink q) calm d = inl (ap (λ (x_ : Board). x_.atoms) d.9, ap (λ (x_ : Board). x_.epoch) d.9)
effect z b b' v none (LeaveHead h) calm d = inl (ap (λ (x_ : Board). x_.atoms) d.4, ap (λ (x_ : Board). x_.epoch) d.4)
effect z b b' v none (LeaveLink q) calm d = inl (ap (λ (x_ : Board). x_.atoms) d.3, ap (λ (x_ : Board). x_.epoch) d.3)
effect z b b' v none (PublishRow row) calm d = inl (ap (λ (x_ : Board). x_.atoms) d.5, ap (λ (x_ : Board). x_.epoch) d.5)
effect z b b' v none (Publish h) calm d = inl (ap (λ (x_ : Board). x_.atoms) d.5, ap (λ (x_ : Board). x_.epoch) d.5)
effect z b b' v none _ calm d = absurd d

-- a word that was made 0
zero_there : (l : List ℕ) (k : ℕ) → get_or (set l k 0) k 0 ≢ 3
zero_there [] k e = omega arith
zero_there (n ∷ l) zero e = omega arith
zero_there (n ∷ l) (suc k) e = zero_there l k e

module _ (z : Size) (b : Board) (vs : List View) (r : Kept z b vs) (knows : Knows z b vs) where
  -- a told pass is calm
  told_calm : (id : ℕ) (v : View) (b' : Board) → get_elem? vs id ≡ some v → v.gone ≡ false → (kind : Kind) → Does z b v kind b' → ToldCalm z v kind → Calm v kind
  told_calm id v b' at here (PassOver x) d told = λ y sweep high is. let one : d.0 ≡ y = some_same d.0 y v.sweep d.1.0 sweep in let two : phase_of b.epoch ≡ 2 = ap phase_of (sym r.cycle.word ∙ ap (λ (q : Sweeping). q.word) ((r.seats id v at here).sweeps d.0 d.1.0).1) ∙ d.1.1 in
      knows two id v y at here sweep (told y sweep high) (ap (λ (t : Sweeping). get_or b.atoms t.cursor 0) (sym one) ∙ (d.4 ∙ is))
  told_calm id v b' at here (Reserve k) d told = told
  told_calm id v b' at here _ d told = told

  -- the seat that steps is told
  mine : (id : ℕ) (v : View) (b' : Board) → get_elem? vs id ≡ some v → v.gone ≡ false → (kind : Kind) → Does z b v kind b' → (q : Sweeping) → (view_after v kind).sweep ≡ Some q → Tells z q.cursor kind → get_or b'.atoms q.cursor 0 ≢ 3
  mine id v b' at here (Look x) d q sweep tells = let was = unmapped (looking x) v.sweep q sweep in let one : d.0 ≡ was.0 = some_same d.0 was.0 v.sweep d.1.0 was.1 in let cursor : d.0.cursor ≡ q.cursor = ap (λ (t : Sweeping). t.cursor) one ∙ ap (λ (t : Sweeping). t.cursor) was.2 in
      λ is. tells (sym d.4 ∙ ((λ i. get_or b.atoms (cursor i) 0) ∙ ((λ i. get_or (sym d.5 i).atoms q.cursor 0) ∙ is)))
  mine id v b' at here (Load i x) d q sweep tells = λ is. tells.2 (sym d.0 ∙ ((λ j. get_or (Rattle.atom_words.specs.Board.laid z b) (tells.1 j) 0) ∙ (atom_read z b r.sized q.cursor tells.0 ∙ ((λ j. get_or (sym d.1 j).atoms q.cursor 0) ∙ is))))
  mine id v b' at here Free d q sweep tells = let was = unmapped freeing v.sweep q sweep in let one : d.0 ≡ was.0 = some_same d.0 was.0 v.sweep d.1.0.0 was.1 in let cursor : d.0.cursor ≡ q.cursor = ap (λ (t : Sweeping). t.cursor) one ∙ ap (λ (t : Sweeping). t.cursor) was.2 in
      λ is. zero_there b.atoms q.cursor ((λ j. get_or (set b.atoms (sym cursor j) 0) q.cursor 0) ∙ ((λ j. get_or (sym d.3 j).atoms q.cursor 0) ∙ is))
  mine id v b' at here _ d q sweep tells = absurd tells

  -- the words stay
  knows_same : (b' : Board) → b' ≡ b → (id : ℕ) (v : View) (y : Sweeping) → phase_of b'.epoch ≡ 2 → get_elem? vs id ≡ some v → v.gone ≡ false → v.sweep ≡ Some y → Told z y.cursor v → get_or b'.atoms y.cursor 0 ≢ 3
  knows_same b' e id v y two at here sweep told is = knows (ap (λ (x : Board). phase_of x.epoch) (sym e) ∙ two) id v y at here sweep told ((λ i. get_or (sym e i).atoms y.cursor 0) ∙ is)

  knows_goes : (none : NoneReserved vs) (b' : Board) (vs' : List View) (g : Goes z b vs b' vs') → Calm g.view g.kind → Knows z b' vs'
  knows_goes none b' vs' g calm two j w q at here sweep told = ⊎_elim
      (λ (t : (j ≡ g.id) × (view_after g.view g.kind ≡ w)). let sw = ap (λ (x : View). x.sweep) t.1 ∙ sweep in mine g.id g.view b' g.at g.here g.kind g.does q sw (last_told z q.cursor w g.view.made g.kind (ap (λ (x : View). x.made) (sym t.1) ∙ made_after g.view g.kind) told))
      (λ (t : (j ≢ g.id) × (get_elem? vs j ≡ some w)). ⊎_elim
      (λ (f : (b'.atoms ≡ b.atoms) × (b'.epoch ≡ b.epoch)). λ is. knows (ap phase_of (sym f.1) ∙ two) j w q t.1 here sweep told ((λ i. get_or (sym f.0 i) q.cursor 0) ∙ is))
      (λ (f : ((y : Sweeping) × (g.view.sweep ≡ Some y)) ⊎ (Scanning g.view × (b'.epoch ≡ b.epoch))). ⊎_elim
      (λ (p : (y : Sweeping) × (g.view.sweep ≡ Some y)). absurd (t.0 (sym ((r.seats j w t.1 here).sweeps q sweep).0 ∙ ((r.seats g.id g.view g.at g.here).sweeps p.0 p.1).0)))
      (λ (p : Scanning g.view × (b'.epoch ≡ b.epoch)). absurd (let m = (r.seats g.id g.view g.at g.here).marks.reading p.0.1 in let e = ap phase_of p.1 in omega (arith, m.0, two, e))) f)
      (effect z b b' g.view (none g.id g.view g.at g.here) g.kind calm g.does))
      (at_set vs g.id j (view_after g.view g.kind) w (subst (λ (l : List View). get_elem? l j ≡ some w) g.views at))

  knows_move : (none : NoneReserved vs) (b' : Board) (vs' : List View) (m : Moves z b vs b' vs') → CalmMove z b vs b' vs' m → Knows z b' vs'
  knows_move none b' vs' (goes g) calm two j w q at here sweep told = knows_goes none b' vs' g calm two j w q at here sweep told
  knows_move none b' vs' (makes e f) calm two j w q at here sweep told = ⊎_elim
      (λ (t : get_elem? vs j ≡ some w). knows_same b' e j w q two t here sweep told)
      (λ (t : newcomer z ≡ w). absurd (let off : None ≡ Some q = ap (λ (x : View). x.sweep) t ∙ sweep in cc))
      (at_snoc vs (newcomer z) w j (subst (λ (l : List View). get_elem? l j ≡ some w) f at))
  knows_move none b' vs' (joins g) calm two j w q at here sweep told = ⊎_elim
      (λ (t : (j ≡ g.other) × (spent ≡ w)). absurd (let off = ap (λ (x : View). x.gone) t.1 ∙ here in cc))
      (λ (t : (j ≢ g.other) × (get_elem? (set vs g.id (with_keeper g.view g.keeper)) j ≡ some w)). ⊎_elim
      (λ (p : (j ≡ g.id) × (with_keeper g.view g.keeper ≡ w)). absurd (last_told z q.cursor w g.view.made Join (ap (λ (x : View). x.made) (sym p.1)) told))
      (λ (p : (j ≢ g.id) × (get_elem? vs j ≡ some w)). knows_same b' g.words j w q two p.1 here sweep told)
      (at_set vs g.id j (with_keeper g.view g.keeper) w t.1))
      (at_set (set vs g.id (with_keeper g.view g.keeper)) g.other j spent w (subst (λ (l : List View). get_elem? l j ≡ some w) g.views at))
  knows_move none b' vs' (splits g) calm two j w q at here sweep told = ⊎_elim
      (λ (t : get_elem? (set vs g.id g.left) j ≡ some w). ⊎_elim
      (λ (p : (j ≡ g.id) × (g.left ≡ w)). absurd (last_told z q.cursor w g.view.made Split (ap (λ (x : View). x.made) (sym p.1) ∙ left_made g.view g.left g.right g.cut) told))
      (λ (p : (j ≢ g.id) × (get_elem? vs j ≡ some w)). knows_same b' g.words j w q two p.1 here sweep told)
      (at_set vs g.id j g.left w t))
      (λ (t : g.right ≡ w). absurd (last_told z q.cursor w [] Split (ap (λ (x : View). x.made) (sym t) ∙ right_made g.view g.left g.right g.cut) told))
      (at_snoc (set vs g.id g.left) g.right w j (subst (λ (l : List View). get_elem? l j ≡ some w) g.views at))
    where
      left_made : (v l m : View) → Cut v l m → l.made ≡ v.made ++ Split ∷ []
      left_made v l m keeper = refl
      left_made v l m collector = refl
      left_made v l m (engine h n) = refl

      right_made : (v l m : View) → Cut v l m → m.made ≡ Split ∷ []
      right_made v l m keeper = refl
      right_made v l m collector = refl
      right_made v l m (engine h n) = refl

  -- a told step is calm
  calm_told : (b' : Board) (vs' : List View) (m : Moves z b vs b' vs') → ToldMove z b vs b' vs' m → CalmMove z b vs b' vs' m
  calm_told b' vs' (goes g) t = told_calm g.id g.view b' g.at g.here g.kind g.does t
  calm_told b' vs' (makes e f) t = tt
  calm_told b' vs' (joins g) t = tt
  calm_told b' vs' (splits g) t = tt

-- over all steps
told_leads : (n : ℕ) (z : Size) (b0 : Board) (vs0 : List View) (b : Board) (vs : List View) → LeadsTold n z b0 vs0 b vs → Kept z b0 vs0 → NoneReserved vs0 → phase_of b0.epoch ≡ 0 → Kept z b vs × Knows z b vs × Leads n z b0 vs0 b vs
told_leads zero z b0 vs0 b vs l r none idle = let P : Board × List View → Type 0 = λ p. Kept z p.0 p.1 × Knows z p.0 p.1 in let k : Knows z b0 vs0 = (λ two. absurd (omega (arith, idle, two))) in let p = subst P (λ i. (sym l.0 i, sym l.1 i)) (r, k) in (p.0, p.1, l)
told_leads (suc n) z b0 vs0 b vs l r none idle = let p = told_leads n z b0 vs0 l.0 l.1 l.2 r none idle in let calm = calm_told z l.0 l.1 p.0 p.1 b vs l.3 l.4 in let s = (all_leads n z b0 vs0 l.0 l.1 p.2 r none idle).1 in
    (keep_move z l.0 l.1 b vs p.0 l.3, knows_move z l.0 l.1 p.0 p.1 s.none b vs l.3 calm, (l.0, l.1, p.2, l.3, calm))

pub passes_told : (z : Size) (m n : ℕ) (b0 : Board) (vs0 : List View) (b : Board) (vs : List View) → LeadsTold n z b0 vs0 b vs → Reached m z b0 vs0 → NoneReserved vs0 → phase_of b0.epoch ≡ 0
    → (id x : ℕ) (v : View) (y : Sweeping) (b' : Board) → get_elem? vs id ≡ some v → v.gone ≡ false → Does z b v (PassOver x) b' → v.sweep ≡ Some y → 256 ≤ y.cursor → Told z y.cursor v → x ≢ 3
passes_told z m n b0 vs0 b vs l h none idle id x v y b' at here d sweep high told = let p = told_leads n z b0 vs0 b vs l (reached_kept m z b0 vs0 h) none idle in told_calm z b vs p.0 p.1 id v b' at here (PassOver x) d (λ q e _. subst (λ (t : Sweeping). Told z t.cursor v) (some_same y q v.sweep sweep e) told) y sweep high
