-- What the collector keeps at run time of the rows of buckets stays tied to its view.
use Rattle.std.proofs.Common.{◌≡◌, ◌≢◌, ◌⊎◌, ℕ, ◌+◌, ◌-◌, ◌^◌, ◌<◌, ◌≤◌, Bool, true, false, List, [], ◌∷◌, ◌++◌, refl, sym, ap, ◌∙◌, subst, inl, inr, ⊎_elim, arith, Option, Some, None}
use Rattle.std.specs.Prelude.{◌==◌, ◌&&◌, ◌||◌, nat_lt}
use Rattle.std.specs.List.{list_any}
use Rattle.std.specs.Option.{is_some}
use Rattle.std.proofs.lemmas.Bool.{eq-eqb, lt-ltb}
use Rattle.std.proofs.lemmas.List.Folds.{list_any-append}
use Rattle.std.proofs.Math.Bool.{or-true}
use Rattle.atom_words.specs.Layout.{phase_of}
use Rattle.atom_words.specs.Board.{head_at}
use Rattle.atom_words.specs.Kinds.{Idle, RowOk, view_after, after}
use Rattle.atom_words.specs.Seats.{seen, Same}
use Rattle.atom_words.specs.declared.size.Size.{Size}
use Rattle.atom_words.specs.declared.view.Sweeping.{Sweeping}
use Rattle.atom_words.specs.declared.view.Growing.{Growing}
use Rattle.atom_words.specs.declared.view.View.{View}
use Rattle.atom_words.specs.declared.words.Words.{Words}
use Rattle.atom_words.specs.declared.words.AtomSeat.{AtomSeat}
use Rattle.atom_words.specs.declared.kind.Kind.{Kind}
use Rattle.atom_words.specs.declared.kind.Kind.TheVariants.{Load, Start, End, Read, Next, Aim, Sound, Close, Emptied, Pick, MoveHead, MoveLink, LeaveHead, LeaveLink, PublishRow, Publish}
use Rattle.atom_words.proofs.Slices.{some_same}
use Rattle.bucket_rows.specs.RowChanges.{RowKind, RowKinds, RowSteps, Rowing, Closes, Sounds, MovesOn, FoundWorn, Settled}
use Rattle.bucket_rows.specs.SweepKinds.{Untouched}
use Rattle.bucket_rows.proofs.RowLaws.{settled_kind, settled_by}
use Rattle.bucket_rows.proofs.RowViews.{worn_steps}
use Rattle.bucket_rows.proofs.Checks.{after_append}
use Rattle.atom_table.specs.Holding.{Sits}
use Rattle.atom_table.specs.Collecting.{Collects}
use Rattle.atom_table.specs.Resizing.{is_found, HasFound, phase_known, RowsKnown, AtStage, RowsTied}
use Rattle.atom_table.specs.declared.resizing.Stage.{Stage}
use Rattle.atom_table.specs.declared.resizing.Stage.TheVariants.{Still, Sounding, Closing, Moving, Opening}
use Rattle.atom_table.specs.declared.resizing.Rows.{Rows}
use Rattle.atom_table.proofs.Scans.{sits_same, collects_known, known_collects}

-- WHAT IS KNOWN OF THE ROWS, as equations and as `Rowing`
idle_of : (v : View) → phase_known v.sweep ≡ 0 → Idle v
idle_of v e = by v.sweep refl e
  where
    by : (o : Option Sweeping) → v.sweep ≡ o → phase_known o ≡ 0 → Idle v
    by None is e = absurd (let wrong : 1 ≡ 0 = e in omega (arith, wrong))
    by (Some y) is e = (y, is, e)

pub rowing_of : (row aim shut sound moved : ℕ) (v : View) → RowsKnown row aim shut sound moved v → Rowing row aim shut sound moved v
rowing_of row aim shut sound moved v k = record { idle = idle_of v k.0; row_is = k.1; aim_is = k.2; shut_is = k.3; sound_is = k.4; moved_is = k.5; still = k.6 }

known_of : (row aim shut sound moved : ℕ) (v : View) → Rowing row aim shut sound moved v → RowsKnown row aim shut sound moved v
known_of row aim shut sound moved v r = (ap phase_known r.idle.1 ∙ r.idle.2, r.row_is, r.aim_is, r.shut_is, r.sound_is, r.moved_is, r.still)

-- whatever is known of the other row, and of the chains
known_some : (row aim shut sound moved : ℕ) (v : View) → Rowing row aim shut sound moved v → RowsKnown row aim shut v.growing.sound v.growing.moved v
known_some row aim shut sound moved v r = (ap phase_known r.idle.1 ∙ r.idle.2, r.row_is, r.aim_is, r.shut_is, refl, refl, r.still)

-- THE TIE, by the stage
tied_at : (v : View) (r : Rows) (s : Stage) → r.stage ≡ s → v.growing.row ≡ r.row → RowOk v.size r.row → AtStage v r s → RowsTied v r
tied_at v r s e row ok a = let at : AtStage v r r.stage = subst (AtStage v r) (sym e) a in
    (row, ok, (λ f. subst (AtStage v r) f at), (λ f. subst (AtStage v r) f at), (λ f. subst (AtStage v r) f at), (λ f. subst (AtStage v r) f at), (λ f. subst (AtStage v r) f at))

-- no change of rows is at work, and the rows are as before
pub rowed_still : (v w : View) (r : Rows) → r.stage ≡ Still → w.growing ≡ v.growing → w.size ≡ v.size → RowsTied v r → RowsTied w r
rowed_still v w r still g size t = tied_at w r Still still (ap (λ (x : Growing). x.row) g ∙ t.0) (subst (λ (z : Size). RowOk z r.row) (sym size) t.1) (ap (λ (x : Growing). x.shut) g ∙ t.2 still)

-- at each other stage the collector knows that no cycle is at work
idle_at : (v : View) (r : Rows) (s : Stage) → r.stage ≡ s → RowsTied v r → (s ≡ Still) ⊎ Idle v
idle_at v r Still e t = inl refl
idle_at v r Sounding e t = inr (idle_of v (t.3 e).0.0)
idle_at v r Closing e t = inr (idle_of v (t.4 e).0.0)
idle_at v r Moving e t = inr (idle_of v (t.5 e).0.0)
idle_at v r Opening e t = inr (idle_of v (t.6 e).0.0)

-- so while a cycle marks or sweeps none is at work
pub busy_still : (v : View) (word checked cursor : ℕ) (r : Rows) → phase_of word ≢ 0 → Collects v word checked cursor → RowsTied v r → r.stage ≡ Still
busy_still v word checked cursor r busy c t = ⊎_elim
    (λ (e : r.stage ≡ Still). e)
    (λ (i : Idle v). let k = collects_known v word checked cursor c in let one : k.0 ≡ i.0 = some_same k.0 i.0 v.sweep k.1 i.1 in absurd (busy (ap phase_of (sym k.2) ∙ (ap (λ (y : Sweeping). phase_of y.word) one ∙ i.2))))
    (idle_at v r r.stage refl t)

pub marks_still : (v : View) (word checked cursor : ℕ) (r : Rows) → phase_of word ≡ 1 → Collects v word checked cursor → RowsTied v r → r.stage ≡ Still
marks_still v word checked cursor r one c t = busy_still v word checked cursor r (λ zero_. omega (arith, one, zero_)) c t

-- A SEAT THAT MADE STEPS OF A CHANGE OF ROWS sits on
pub rows_sit : (words : Words) (s r : AtomSeat) → Same s r → RowSteps (seen s) (seen r) → Sits words s → Sits words r
rows_sit words s r same steps sits = let t : Settled (seen s) (seen r) = settled_by (seen s) (seen r) steps in sits_same words s r same t.held t.fixed t.size t.gone t.own t.counts sits

-- and keeps what it knows of the cycle
pub rows_collect : (v w : View) (word checked cursor : ℕ) → RowSteps v w → Collects v word checked cursor → Collects w word checked cursor
rows_collect v w word checked cursor steps c = let t : Settled v w = settled_by v w steps in let k = collects_known v word checked cursor c in
    known_collects w word checked cursor k.0 (t.sweep ∙ k.1) k.2 k.3 (subst (λ (z : Size). checked ≤ z.engines) (sym t.size) c.3) k.4 (subst (λ (z : Size). cursor ≤ z.slots) (sym t.size) c.5) k.5 k.6

-- A WORN HEAD that was found is among the steps made
any_last : (f : Kind → Bool) (ks : List Kind) (k : Kind) → f k ≡ true → list_any f (ks ++ k ∷ []) ≡ true
any_last f ks k e = list_any-append f ks (k ∷ []) ∙ (ap (λ (b : Bool). list_any f ks || (b || false)) e ∙ or-true (list_any f ks))

any_front : (f : Kind → Bool) (ks js : List Kind) → list_any f ks ≡ true → list_any f (ks ++ js) ≡ true
any_front f ks js e = list_any-append f ks js ∙ ap (λ (b : Bool). b || list_any f js) e

found_start : (z : Size) (h x : ℕ) → is_found z x (Start h x) ≡ true
found_start z h x = eq-eqb x x refl

found_load : (z : Size) (h x : ℕ) → h < z.heads → is_found z x (Load (head_at z h) x) ≡ true
found_load z h x inside = let same : (x == x) ≡ true = eq-eqb x x refl in let low : nat_lt (head_at z 0) (head_at z h + 1) ≡ true = lt-ltb (head_at z 0) (head_at z h + 1) (omega arith) in let high : nat_lt (head_at z h) (head_at z z.heads) ≡ true = lt-ltb (head_at z h) (head_at z z.heads) (omega (arith, inside)) in
    λ i. same i && (low i && high i)

pub has_found : (h x : ℕ) (v w : View) → h < v.size.heads → FoundWorn h x v w → HasFound x w
has_found h x v w inside f = let size : w.size ≡ v.size = (settled_by v w (worn_steps h x v w f)).size in let js : List Kind = f.1.0 in (
  f.0,
  subst (λ (z : Size). list_any (is_found z x) w.made ≡ true) (sym size) (⊎_elim
      (λ (e : w ≡ after v (js ++ Start h x ∷ [])). ap (λ (y : View). list_any (is_found v.size x) y.made) (e ∙ after_append v js (Start h x ∷ [])) ∙ any_last (is_found v.size x) (after v js).made (Start h x) (found_start v.size h x))
      (λ (e : w ≡ after v (js ++ Load (head_at v.size h) x ∷ [])). ap (λ (y : View). list_any (is_found v.size x) y.made) (e ∙ after_append v js (Load (head_at v.size h) x ∷ [])) ∙ any_last (is_found v.size x) (after v js).made (Load (head_at v.size h) x) (found_load v.size h x inside))
      f.1.2),
)

-- each step is appended to those made
made_one : (v : View) (k : Kind) → RowKind k → (view_after v k).made ≡ v.made ++ k ∷ []
made_one v (Load i x) t = refl
made_one v (Start h x) t = refl
made_one v (Read x) t = refl
made_one v (Next x) t = refl
made_one v (Aim row) t = refl
made_one v (Sound x) t = refl
made_one v (Close h) t = refl
made_one v Emptied t = refl
made_one v (Pick a before) t = refl
made_one v (MoveHead h) t = refl
made_one v (MoveLink q) t = refl
made_one v (LeaveHead h) t = refl
made_one v (LeaveLink q) t = refl
made_one v (PublishRow row) t = refl
made_one v (Publish h) t = refl
made_one v _ t = absurd t

-- so it is there after further steps
found_one : (x : ℕ) (v : View) (k : Kind) → RowKind k → HasFound x v → HasFound x (view_after v k)
found_one x v k t f = (
  f.0,
  (λ i. list_any (is_found ((settled_kind v k t).size i) x) (made_one v k t i)) ∙ any_front (is_found v.size x) v.made (k ∷ []) f.1,
)

found_all : (x : ℕ) (v : View) (ks : List Kind) → RowKinds ks → HasFound x v → HasFound x (after v ks)
found_all x v [] t f = f
found_all x v (k ∷ ks) t f = found_all x (view_after v k) ks t.1 (found_one x v k t.0 f)

pub found_on : (x : ℕ) (v w : View) → RowSteps v w → HasFound x v → HasFound x w
found_on x v w s f = subst (HasFound x) (sym s.1) (found_all x v s.0 s.2 f)

-- THE FIRST ROW of a new table, all whose heads are open
pub first_tied : (v : View) (z : Size) (r : Rows) → v.size ≡ z → 256 ≤ z.heads → v.growing.row ≡ 8 → v.growing.shut ≡ 0 → r.stage ≡ Still → r.row ≡ 8 → RowsTied v r
first_tied v z r size wide row unshut still is = tied_at v r Still still (row ∙ sym is) (subst (λ (n : ℕ). RowOk v.size n) (sym is) (subst (λ (y : Size). RowOk y 8) (sym size) (omega arith, omega (arith, wide)))) unshut

-- THE SWEEP leaves what is known of the rows
pub swept_rowed : (v w : View) (word checked cursor : ℕ) (r : Rows) → phase_of word ≡ 2 → Collects v word checked cursor → Untouched v w → RowsTied v r → RowsTied w r
swept_rowed v w word checked cursor r two c u t = rowed_still v w r (busy_still v word checked cursor r (λ zero_. omega (arith, two, zero_)) c t) u.growing u.size t

pub ended_rowed : (v u w : View) (word checked cursor : ℕ) (r : Rows) → phase_of word ≡ 2 → Collects v word checked cursor → Untouched v u → w ≡ after u (End ∷ []) → RowsTied v r → RowsTied w r
ended_rowed v u w word checked cursor r two c t is tie = rowed_still v w r (busy_still v word checked cursor r (λ zero_. omega (arith, two, zero_)) c tie) (ap (λ (y : View). y.growing) is ∙ t.growing) (ap (λ (y : View). y.size) is ∙ t.size) tie

-- FROM STAGE TO STAGE, by steps of a change of rows. The row in use stays
row_stays : (v w : View) (r : Rows) → RowSteps v w → RowsTied v r → RowOk w.size r.row
row_stays v w r s t = subst (λ (z : Size). RowOk z r.row) (sym (settled_by v w s).size) t.1

aim_stays : (v w : View) (aim : ℕ) → RowSteps v w → RowOk v.size aim → RowOk w.size aim
aim_stays v w aim s ok = subst (λ (z : Size). RowOk z aim) (sym (settled_by v w s).size) ok

-- the first head of the row in use is closed; or it is worn, and stays open
pub started : (v w : View) (r : Rows) (aim : ℕ) → RowsTied v r → RowSteps v w → RowOk v.size aim → aim ≢ r.row → Rowing r.row aim 1 0 0 w → RowsTied w (record { stage = Sounding; row = r.row; aim = aim; shut = 1; sound = 0; moved = 0; worn = None })
started v w r aim t steps ok other now = let q : Rows = record { stage = Sounding; row = r.row; aim = aim; shut = 1; sound = 0; moved = 0; worn = None } in
    tied_at w q Sounding refl now.row_is (row_stays v w r steps t) (known_of r.row aim 1 0 0 w now, aim_stays v w aim steps ok, other, refl, refl, omega arith, refl)

pub not_started : (v w : View) (r : Rows) (aim : ℕ) → r.stage ≡ Still → RowsTied v r → RowSteps v w → Rowing r.row aim 0 0 0 w → RowsTied w r
not_started v w r aim s t steps now = tied_at w r Still s now.row_is (row_stays v w r steps t) now.shut_is

-- what the collector knows at each stage
pub at_sounding : (v : View) (r : Rows) → r.stage ≡ Sounding → RowsTied v r → Rowing r.row r.aim r.shut r.sound 0 v
at_sounding v r s t = rowing_of r.row r.aim r.shut r.sound 0 v (t.3 s).0

pub at_closing : (v : View) (r : Rows) → r.stage ≡ Closing → RowsTied v r → Rowing r.row r.aim r.shut (2 ^ r.aim) 0 v
at_closing v r s t = rowing_of r.row r.aim r.shut (2 ^ r.aim) 0 v (t.4 s).0

pub at_moving : (v : View) (r : Rows) → r.stage ≡ Moving → RowsTied v r → Rowing r.row r.aim (2 ^ r.row) (2 ^ r.aim) r.moved v
at_moving v r s t = rowing_of r.row r.aim (2 ^ r.row) (2 ^ r.aim) r.moved v (t.5 s).0

pub at_opening : (v : View) (r : Rows) → r.stage ≡ Opening → RowsTied v r → Rowing r.row r.aim r.shut v.growing.sound v.growing.moved v
at_opening v r s t = rowing_of r.row r.aim r.shut v.growing.sound v.growing.moved v (t.6 s).0

-- heads of the other row are not worn: some, or all; or one is
pub sounded : (v w : View) (r : Rows) (n : ℕ) → r.stage ≡ Sounding → RowsTied v r → RowSteps v w → Sounds r.aim r.sound n v w → n ≤ 2 ^ r.aim → RowsTied w (record r { sound = n })
sounded v w r n s t steps on most = let a : AtStage v r Sounding = t.3 s in let now = on r.row r.shut 0 (at_sounding v r s t) in let q : Rows = record r { sound = n } in
    tied_at w q Sounding s now.row_is (row_stays v w r steps t) (known_of r.row r.aim r.shut n 0 w now, aim_stays v w r.aim steps a.1, a.2, a.3, a.4, most, a.6)

pub sounded_all : (v w : View) (r : Rows) (n : ℕ) → r.stage ≡ Sounding → RowsTied v r → RowSteps v w → Sounds r.aim r.sound n v w → n ≡ 2 ^ r.aim → RowsTied w (record r { sound = n; stage = Closing })
sounded_all v w r n s t steps on all = let a : AtStage v r Sounding = t.3 s in let now = on r.row r.shut 0 (at_sounding v r s t) in let one = a.4 in let wide = t.1.0 in let q : Rows = record r { sound = n; stage = Closing } in
    tied_at w q Closing refl now.row_is (row_stays v w r steps t) (subst (λ (m : ℕ). RowsKnown r.row r.aim r.shut m 0 w) all (known_of r.row r.aim r.shut n 0 w now), aim_stays v w r.aim steps a.1, a.2, a.3, omega (arith, one), omega (arith, one, wide), a.6)

some_one : (x y : ℕ) → Some x ≡ Some y → x ≡ y
some_one x y e = cc

worn_open : (v w : View) (r : Rows) (sound moved x n : ℕ) → RowOk w.size r.row → r.aim ≢ r.row → Rowing r.row r.aim n sound moved w → n < 2 ^ r.row → HasFound x w → RowsTied w (record r { shut = n; worn = Some x; stage = Opening })
worn_open v w r sound moved x n ok other now less f = let q : Rows = record r { shut = n; worn = Some x; stage = Opening } in
    tied_at w q Opening refl now.row_is ok (
      known_some r.row r.aim n sound moved w now,
      (λ _. less),
      omega (arith, less),
      (λ e. absurd (let wrong : Some x ≡ None = e in cc)),
      λ y e. (other, subst (λ (z : ℕ). HasFound z w) (some_one x y e) f),
    )

pub sounded_worn : (v w : View) (r : Rows) (h x n : ℕ) → r.stage ≡ Sounding → RowsTied v r → h < v.size.heads → FoundWorn h x v w → Sounds r.aim r.sound n v w → RowsTied w (record r { worn = Some x; stage = Opening })
sounded_worn v w r h x n s t inside f on = let a : AtStage v r Sounding = t.3 s in let now = on r.row r.shut 0 (at_sounding v r s t) in let one = a.4 in let wide = t.1.0 in
    worn_open v w r n 0 x r.shut (row_stays v w r (worn_steps h x v w f) t) a.2 now (omega (arith, one, wide)) (has_found h x v w inside f)

-- heads of the row in use are closed: some, or all; or one is worn
pub closed_some : (v w : View) (r : Rows) (n : ℕ) → r.stage ≡ Closing → RowsTied v r → RowSteps v w → Closes r.row r.shut n v w → r.shut ≤ n → n ≤ 2 ^ r.row → RowsTied w (record r { shut = n })
closed_some v w r n s t steps on more most = let a : AtStage v r Closing = t.4 s in let now = on r.aim (2 ^ r.aim) 0 (at_closing v r s t) in let some_ = a.4 in let q : Rows = record r { shut = n } in
    tied_at w q Closing s now.row_is (row_stays v w r steps t) (known_of r.row r.aim n (2 ^ r.aim) 0 w now, aim_stays v w r.aim steps a.1, a.2, a.3, omega (arith, some_, more), most, a.6)

pub closed_all : (v w : View) (r : Rows) (n : ℕ) → r.stage ≡ Closing → RowsTied v r → RowSteps v w → Closes r.row r.shut n v w → n ≡ 2 ^ r.row → RowsTied w (record r { shut = n; stage = Moving })
closed_all v w r n s t steps on all = let a : AtStage v r Closing = t.4 s in let none_moved = a.6 in let now = on r.aim (2 ^ r.aim) 0 (at_closing v r s t) in let q : Rows = record r { shut = n; stage = Moving } in
    tied_at w q Moving refl now.row_is (row_stays v w r steps t) (
      subst (λ (p : ℕ × ℕ). RowsKnown r.row r.aim p.0 (2 ^ r.aim) p.1 w) (λ i. (all i, sym none_moved i)) (known_of r.row r.aim n (2 ^ r.aim) 0 w now),
      aim_stays v w r.aim steps a.1,
      a.2,
      a.3,
      omega (arith, none_moved),
    )

pub closed_worn : (v w : View) (r : Rows) (h x n : ℕ) → r.stage ≡ Closing → RowsTied v r → h < v.size.heads → FoundWorn h x v w → Closes r.row r.shut n v w → n < 2 ^ r.row → RowsTied w (record r { shut = n; worn = Some x; stage = Opening })
closed_worn v w r h x n s t inside f on less = let a : AtStage v r Closing = t.4 s in let now = on r.aim (2 ^ r.aim) 0 (at_closing v r s t) in
    worn_open v w r (2 ^ r.aim) 0 x n (row_stays v w r (worn_steps h x v w f) t) a.2 now less (has_found h x v w inside f)

-- chains are moved: some; or all, and the other row is in use
pub moved_some : (v w : View) (r : Rows) (n : ℕ) → r.stage ≡ Moving → RowsTied v r → RowSteps v w → MovesOn r.row r.aim r.moved n v w → n ≤ 2 ^ r.row → RowsTied w (record r { moved = n })
moved_some v w r n s t steps on most = let a : AtStage v r Moving = t.5 s in let now = on (2 ^ r.row) (2 ^ r.aim) (at_moving v r s t) in let q : Rows = record r { moved = n } in
    tied_at w q Moving s now.row_is (row_stays v w r steps t) (known_of r.row r.aim (2 ^ r.row) (2 ^ r.aim) n w now, aim_stays v w r.aim steps a.1, a.2, a.3, most)

pub moved_all : (v w : View) (r : Rows) (n m : ℕ) → r.stage ≡ Moving → RowsTied v r → RowSteps v w → Rowing r.aim r.aim (2 ^ r.aim) 0 0 w → m ≡ 2 ^ r.aim → RowsTied w (record r { row = r.aim; shut = m; moved = n; stage = Opening })
moved_all v w r n m s t steps now all = let a : AtStage v r Moving = t.5 s in let q : Rows = record r { row = r.aim; shut = m; moved = n; stage = Opening } in
    tied_at w q Opening refl now.row_is (aim_stays v w r.aim steps a.1) (
      subst (λ (k : ℕ). RowsKnown r.aim r.aim k w.growing.sound w.growing.moved w) (sym all) (known_some r.aim r.aim (2 ^ r.aim) 0 0 w now),
      (λ ne. absurd (ne refl)),
      omega (arith, all),
      (λ _. refl),
      λ x e. absurd (let wrong : is_some (Some x) ≡ false = ap is_some (sym e) ∙ a.3 in cc),
    )

-- heads are opened: some are left; or none
pub may_open : (v : View) (r : Rows) → r.stage ≡ Opening → RowsTied v r → (r.aim ≡ r.row) ⊎ (r.shut < 2 ^ r.row)
may_open v r s t = mathlib.Core.Logic.dite (native.Mathlib.Decide.ℕ_discrete r.aim r.row) (λ (e : r.aim ≡ r.row). inl e) (λ (ne : r.aim ≢ r.row). inr ((t.6 s).1 ne))

pub opened_some : (v w : View) (r : Rows) (n : ℕ) → r.stage ≡ Opening → RowsTied v r → RowSteps v w → ((aim : ℕ) (sound : ℕ) (moved : ℕ) → Rowing r.row aim r.shut sound moved v → (left : ℕ) × Rowing r.row aim n left moved w) → n ≤ r.shut → RowsTied w (record r { shut = n })
opened_some v w r n s t steps on fewer = let a : AtStage v r Opening = t.6 s in let now = on r.aim v.growing.sound v.growing.moved (at_opening v r s t) in let most = a.2 in let q : Rows = record r { shut = n } in
    tied_at w q Opening s now.1.row_is (row_stays v w r steps t) (
      known_some r.row r.aim n now.0 v.growing.moved w now.1,
      (λ ne. let less = a.1 ne in omega (arith, less, fewer)),
      omega (arith, most, fewer),
      a.3,
      λ x e. let f = a.4 x e in (f.0, found_on x v w steps f.1),
    )

pub opened_all : (v w : View) (r : Rows) (n : ℕ) → r.stage ≡ Opening → RowsTied v r → RowSteps v w → ((aim : ℕ) (sound : ℕ) (moved : ℕ) → Rowing r.row aim r.shut sound moved v → (left : ℕ) × Rowing r.row aim n left moved w) → n ≡ 0 → RowsTied w (record r { shut = n; stage = Still })
opened_all v w r n s t steps on none_ = let now = on r.aim v.growing.sound v.growing.moved (at_opening v r s t) in let q : Rows = record r { shut = n; stage = Still } in tied_at w q Still refl now.1.row_is (row_stays v w r steps t) (now.1.shut_is ∙ none_)
