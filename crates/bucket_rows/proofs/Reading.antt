-- What a walk's steps make of the view.
use Rattle.std.proofs.Common.{◌≡◌, ◌≢◌, ◌==◌, ◌&&◌, ◌||◌, Bool, true, false, eq-eqb, ℕ, ◌+◌, ◌-◌, ◌^◌, ◌<◌, ◌≤◌, List, [], ◌∷◌, ◌++◌, length, take, refl, sym, ap, ◌∙◌, subst, inl, inr, ⊎_elim, arith, Option, Some, None, Result, Ok, Err, IfOk, MatchOption, option_map, append_assoc, append-nil, length-append}
use mathlib.Core.List.{map-append}
use Rattle.atom_words.specs.Layout.{first_of, closed_of, version_of}
use Rattle.atom_words.specs.Chains.{In}
use Rattle.atom_words.specs.Plays.{Alone}
use Rattle.atom_words.specs.Texts.{bucket, padded}
use Rattle.atom_words.specs.Board.{atom_at}
use Rattle.atom_words.specs.Seats.{PutsRow, Reserves, Walking}
use Rattle.atom_words.specs.Kinds.{starting, reading, going_on, skipping, guarding, at_hand, held_at_hand, fresh, view_after, after}
use Rattle.atom_words.specs.declared.view.Held.{Held}
use Rattle.atom_words.specs.declared.view.Walk.{Walk}
use Rattle.atom_words.specs.declared.view.Cycling.{Cycling}
use Rattle.atom_words.specs.declared.view.Cause.TheVariants.{Moved as CauseMoved, Pending as CausePending}
use Rattle.atom_words.specs.declared.view.Refusal.TheVariants.{Again}
use Rattle.atom_words.specs.declared.view.View.{View}
use Rattle.atom_words.specs.declared.kind.Kind.{Kind}
use Rattle.atom_words.specs.declared.kind.Kind.TheVariants.{Reserve, Load, Start, Read, Next, Skip, Protect, Hold, Refuse}
use Rattle.atom_words.proofs.Putting.{after_more, row_keeps, row_own}
use Rattle.atom_words.proofs.Slices.{at_snoc}
use Rattle.bucket_rows.specs.declared.missed.Missed.{Missed}
use Rattle.bucket_rows.specs.declared.missed.Missed.TheVariants.{Moved, Pending, Closed, Worn}
use Rattle.bucket_rows.specs.Walks.{Dying, Passed, filling, reads, guards, goes_on, passes, meets, Another, Others, WalksBy, Goes, Missing, MissingIn, Ready, Aside, held_after, refused_after}
use Rattle.bucket_rows.specs.Standing.{Standing, Ends, Meets, IsTextRow}
use Rattle.bucket_rows.proofs.Filling.{filling_padded}

-- STEPS ONE AFTER THE OTHER
pub after_both : (v : View) (ks ls : List Kind) → after v (ks ++ ls) ≡ after (after v ks) ls
after_both v [] ls = refl
after_both v (k ∷ ks) ls = after_both (view_after v k) ks ls

pub reads_more : (v : View) (ws : List ℕ) (x : ℕ) → after v (reads (ws ++ x ∷ [])) ≡ view_after (after v (reads ws)) (Read x)
reads_more v ws x = ap (after v) (map-append (λ y. Read y) ws (x ∷ [])) ∙ after_more v (reads ws) (Read x)

pub passes_both : (ps qs : List Passed) → passes (ps ++ qs) ≡ passes ps ++ passes qs
passes_both [] qs = refl
passes_both (p ∷ ps) qs = ap (λ (l : List Kind). reads p.part ++ l) (ap (λ (l : List Kind). goes_on p.dying p.link ++ l) (passes_both ps qs) ∙ sym (append_assoc (goes_on p.dying p.link) (passes ps) (passes qs)))
    ∙ sym (append_assoc (reads p.part) (goes_on p.dying p.link ++ passes ps) (passes qs))

-- one slot more is passed
pub passes_more : (v : View) (ps : List Passed) (q : Passed) → after v (passes (ps ++ q ∷ [])) ≡ after (after v (passes ps)) (passes (q ∷ []))
passes_more v ps q = ap (after v) (passes_both ps (q ∷ [])) ∙ after_both v (passes ps) (passes (q ∷ []))

pub others_more : (row : List ℕ) (ps : List Passed) (q : Passed) → Others row ps → Another row q.part q.dying → Others row (ps ++ q ∷ [])
others_more row ps q others another i p e = ⊎_elim (others i p) (λ (t : (i ≡ length ps) × (q ≡ p)). subst (λ (x : Passed). Another row x.part x.dying) t.1 another) (at_snoc ps q p i e)

-- WHAT STAYS
pub aside_refl : (v : View) → Aside v v
aside_refl v = record { gone = refl; size = refl; own = refl; fixed = refl; counts = refl; pass = refl; asked = refl; undealt = refl; cycle = refl; sweep = refl; risen = refl }

pub aside_trans : (u v w : View) → Aside u v → Aside v w → Aside u w
aside_trans u v w a b = record { gone = b.gone ∙ a.gone; size = b.size ∙ a.size; own = b.own ∙ a.own; fixed = b.fixed ∙ a.fixed; counts = b.counts ∙ a.counts; pass = b.pass ∙ a.pass; asked = b.asked ∙ a.asked; undealt = b.undealt ∙ a.undealt; cycle = b.cycle ∙ a.cycle; sweep = b.sweep ∙ a.sweep; risen = b.risen ∙ a.risen }

pub aside_reads : (v : View) (ws : List ℕ) → Aside v (after v (reads ws))
aside_reads v [] = aside_refl v
aside_reads v (x ∷ ws) = let one : View = view_after v (Read x) in
    aside_trans v one (after one (reads ws)) (record { gone = refl; size = refl; own = refl; fixed = refl; counts = refl; pass = refl; asked = refl; undealt = refl; cycle = refl; sweep = refl; risen = refl }) (aside_reads one ws)

-- a slot's mark is set
pub aside_guards : (v : View) (l : Option (ℕ × ℕ)) (k x : ℕ) → Aside v (after v (guards l k x))
aside_guards v None k x = record { gone = refl; size = refl; own = refl; fixed = refl; counts = refl; pass = refl; asked = refl; undealt = refl; cycle = refl; sweep = refl; risen = refl }
aside_guards v (Some l) k x = record { gone = refl; size = refl; own = refl; fixed = refl; counts = refl; pass = refl; asked = refl; undealt = refl; cycle = refl; sweep = refl; risen = refl }

-- what that leaves of the view, and what the walk learns
pub record Guarded (k x : ℕ) (v u : View) : Type 0 where
  pub aside : Aside v u
  pub held : u.held ≡ v.held
  pub refusals : u.refusals ≡ v.refusals
  pub walk : u.walk ≡ option_map (guarding k x) v.walk
  pub made : (before : List Kind) × (u.made ≡ before ++ Protect k x ∷ [])

guards_leave : (v : View) (l : Option (ℕ × ℕ)) (k x : ℕ) → Guarded k x v (after v (guards l k x))
guards_leave v None k x = record { aside = aside_guards v None k x; held = refl; refusals = refl; walk = refl; made = (v.made, refl) }
guards_leave v (Some l) k x = record { aside = aside_guards v (Some l) k x; held = refl; refusals = refl; walk = refl; made = (v.made ++ Load l.0 l.1 ∷ [], refl) }

pub guarded_as : (v u : View) (l : Option (ℕ × ℕ)) (k x : ℕ) → u ≡ after v (guards l k x) → Guarded k x v u
guarded_as v u l k x is = subst (Guarded k x v) (sym is) (guards_leave v l k x)

aside_on : (v : View) (d : Option Dying) (x : ℕ) → Aside v (after v (goes_on d x))
aside_on v None x = record { gone = refl; size = refl; own = refl; fixed = refl; counts = refl; pass = refl; asked = refl; undealt = refl; cycle = refl; sweep = refl; risen = refl }
aside_on v (Some d) x = let u : View = after v (guards d.loaded d.slot d.word) in subst (Aside v) (sym (after_both v (guards d.loaded d.slot d.word) (Skip x ∷ [])))
    (aside_trans v u (view_after u (Skip x)) (aside_guards v d.loaded d.slot d.word) (record { gone = refl; size = refl; own = refl; fixed = refl; counts = refl; pass = refl; asked = refl; undealt = refl; cycle = refl; sweep = refl; risen = refl }))

pub aside_passes : (v : View) (ps : List Passed) → Aside v (after v (passes ps))
aside_passes v [] = aside_refl v
aside_passes v (p ∷ ps) = let one : View = after v (reads p.part) in let two : View = after one (goes_on p.dying p.link) in
    subst (Aside v) (sym (after_both v (reads p.part) (goes_on p.dying p.link ++ passes ps) ∙ after_both one (goes_on p.dying p.link) (passes ps)))
    (aside_trans v one (after two (passes ps)) (aside_reads v p.part) (aside_trans one two (after two (passes ps)) (aside_on one p.dying p.link) (aside_passes two ps)))

-- what neither reading a text nor going on changes
pub reads_keep : {A : Type 0} (f : View → A) → ((v : View) (x : ℕ) → f (view_after v (Read x)) ≡ f v) → (v : View) (ws : List ℕ) → f (after v (reads ws)) ≡ f v
reads_keep f same v [] = refl
reads_keep f same v (x ∷ ws) = reads_keep f same (view_after v (Read x)) ws ∙ same v x

-- what no step of a walk before its end changes
pub record Keeps {A : Type 0} (f : View → A) : Type 0 where
  pub read : (v : View) (x : ℕ) → f (view_after v (Read x)) ≡ f v
  pub next : (v : View) (x : ℕ) → f (view_after v (Next x)) ≡ f v
  pub guard : (v : View) (k x : ℕ) → f (view_after v (Protect k x)) ≡ f v
  pub load : (v : View) (i x : ℕ) → f (view_after v (Load i x)) ≡ f v
  pub skip : (v : View) (x : ℕ) → f (view_after v (Skip x)) ≡ f v

guards_keep : {A : Type 0} (f : View → A) → Keeps f → (v : View) (l : Option (ℕ × ℕ)) (k x : ℕ) → f (after v (guards l k x)) ≡ f v
guards_keep f same v None k x = same.guard v k x
guards_keep f same v (Some l) k x = same.guard (view_after v (Load l.0 l.1)) k x ∙ same.load v l.0 l.1

on_keep : {A : Type 0} (f : View → A) → Keeps f → (v : View) (d : Option Dying) (x : ℕ) → f (after v (goes_on d x)) ≡ f v
on_keep f same v None x = same.next v x
on_keep f same v (Some d) x = ap f (after_both v (guards d.loaded d.slot d.word) (Skip x ∷ [])) ∙ (same.skip (after v (guards d.loaded d.slot d.word)) x ∙ guards_keep f same v d.loaded d.slot d.word)

pub passes_keep : {A : Type 0} (f : View → A) → Keeps f → (v : View) (ps : List Passed) → f (after v (passes ps)) ≡ f v
passes_keep f same v [] = refl
passes_keep f same v (p ∷ ps) = let one : View = after v (reads p.part) in ap f (after_both v (reads p.part) (goes_on p.dying p.link ++ passes ps) ∙ after_both one (goes_on p.dying p.link) (passes ps))
    ∙ (passes_keep f same (after one (goes_on p.dying p.link)) ps ∙ (on_keep f same one p.dying p.link ∙ reads_keep f same.read v p.part))

pub keeps_held : Keeps (λ (y : View). y.held)
keeps_held = record { read = λ _ _. refl; next = λ _ _. refl; guard = λ _ _ _. refl; load = λ _ _ _. refl; skip = λ _ _. refl }

pub keeps_refusals : Keeps (λ (y : View). y.refusals)
keeps_refusals = record { read = λ _ _. refl; next = λ _ _. refl; guard = λ _ _ _. refl; load = λ _ _ _. refl; skip = λ _ _. refl }

-- WHERE THE WALK STANDS
module _ (row : List ℕ) (h x : ℕ) where
  pub standing_start : (v : View) → Standing row h x 0 (first_of x) [] (view_after v (Start h x))
  standing_start v = record { walk = starting h x; at = refl; head = refl; word = refl; count = refl; place = refl; part = refl; others = λ i a e. absurd (Rattle.atom_words.proofs.Slices.in_none a (i, e)) }

  pub standing_read : (n p : ℕ) (ws : List ℕ) (y : ℕ) (v : View) → Standing row h x n p ws v → Standing row h x n p (ws ++ y ∷ []) (view_after v (Read y))
  standing_read n p ws y v s = record { walk = reading y s.walk; at = ap (option_map (reading y)) s.at; head = s.head; word = s.word; count = s.count; place = s.place; part = ap (λ (l : List ℕ). l ++ y ∷ []) s.part; others = s.others }

  pub standing_reads : (n p : ℕ) (ws ys : List ℕ) (v : View) → Standing row h x n p ws v → Standing row h x n p (ws ++ ys) (after v (reads ys))
  standing_reads n p ws [] v s = subst (λ (l : List ℕ). Standing row h x n p l v) (sym (append-nil ws)) s
  standing_reads n p ws (y ∷ ys) v s = subst (λ (l : List ℕ). Standing row h x n p l (after (view_after v (Read y)) (reads ys))) (append_assoc ws (y ∷ []) ys)
      (standing_reads n p (ws ++ y ∷ []) ys (view_after v (Read y)) (standing_read n p ws y v s))

  pub standing_next : (n p : ℕ) (ws : List ℕ) (y : ℕ) (v : View) → Standing row h x n p ws v → ws ≢ take (length ws) row → Standing row h x (n + 1) y [] (view_after v (Next y))
  standing_next n p ws y v s ne = record {
    walk = going_on y s.walk;
    at = ap (option_map (going_on y)) s.at;
    head = s.head;
    word = s.word;
    count = let one : length (s.walk.seen ++ at_hand s.walk ∷ []) ≡ length s.walk.seen + 1 = length-append s.walk.seen (at_hand s.walk ∷ []) in let all = s.count in omega arith;
    place = refl;
    part = refl;
    others = λ i a e. ⊎_elim (s.others i a) (λ (t : (i ≡ length s.walk.seen) × (at_hand s.walk ≡ a)). subst (λ (b : Held). b.text ≢ take (length b.text) row) t.1 (subst (λ (l : List ℕ). l ≢ take (length l) row) (sym s.part) ne)) (at_snoc s.walk.seen (at_hand s.walk) a i e);
  }

  -- past a dying slot
  pub standing_skip : (n p : ℕ) (ws : List ℕ) (k y l : ℕ) (v : View) → Standing row h x n p ws v → Standing row h x (n + 1) l [] (view_after (view_after v (Protect k y)) (Skip l))
  standing_skip n p ws k y l v s = record {
    walk = skipping l (guarding k y s.walk);
    at = ap (λ (o : Option Walk). option_map (skipping l) (option_map (guarding k y) o)) s.at;
    head = s.head;
    word = s.word;
    count = let all = s.count in omega arith;
    place = refl;
    part = refl;
    others = s.others;
  }

  -- the same, with the load before the exchange where there is one
  standing_dead : (n p : ℕ) (ws : List ℕ) (o : Option (ℕ × ℕ)) (k y l : ℕ) (v : View) → Standing row h x n p ws v → Standing row h x (n + 1) l [] (after v ((guards o k y ++ Skip l ∷ []) ++ []))
  standing_dead n p ws None k y l v s = standing_skip n p ws k y l v s
  standing_dead n p ws (Some q) k y l v s = standing_skip n p ws k y l (view_after v (Load q.0 q.1)) (record { walk = s.walk; at = s.at; head = s.head; word = s.word; count = s.count; place = s.place; part = s.part; others = s.others })

  standing_on : (n p : ℕ) (ws : List ℕ) (d : Option Dying) (l : ℕ) (v : View) → Standing row h x n p [] v → Another row ws d → Standing row h x (n + 1) l [] (after v (reads ws ++ (goes_on d l ++ [])))
  standing_on n p ws None l v s another = subst (Standing row h x (n + 1) l []) (sym (after_both v (reads ws) (Next l ∷ []))) (standing_next n p ws l (after v (reads ws)) (standing_reads n p [] ws v s) another)
  standing_on n p ws (Some d) l v s another = subst (Standing row h x (n + 1) l []) (sym (after_both v (reads ws) ((guards d.loaded d.slot d.word ++ Skip l ∷ []) ++ [])))
      (standing_dead n p ws d.loaded d.slot d.word l (after v (reads ws)) (standing_reads n p [] ws v s))

  -- one slot more is passed
  pub standing_pass : (n p : ℕ) (q : Passed) (v : View) → Standing row h x n p [] v → Another row q.part q.dying → Standing row h x (n + 1) q.link [] (after v (passes (q ∷ [])))
  standing_pass n p q v s another = standing_on n p q.part q.dying q.link v s another

  -- the slot k is held, whose text was read
  held_after_hold : (o : Option (ℕ × ℕ)) (k y : ℕ) (t : View) → (after t (guards o k y ++ Hold ∷ [])).held ≡ t.held ++ held_at_hand (option_map (guarding k y) t.walk)
  held_after_hold None k y t = refl
  held_after_hold (Some q) k y t = refl

  pub standing_hold : (n k y : ℕ) (o : Option (ℕ × ℕ)) (u w : View) → IsTextRow row → Standing row h x n (k + 1) [] u → w ≡ after u (meets row o k y (Hold ∷ [])) → w.held ≡ u.held ++ record { slot = k; text = row } ∷ []
  standing_hold n k y o u w text st is = let s = standing_reads n (k + 1) [] (filling row) u st in let t : View = after u (reads (filling row)) in let place = s.place in
      let slot : s.walk.place - 1 ≡ k = omega arith in
      let words : padded s.walk.part ≡ row = ap padded s.part ∙ filling_padded row text in
      ap (λ (v : View). v.held) (is ∙ after_both u (reads (filling row)) (guards o k y ++ Hold ∷ []))
      ∙ (held_after_hold o k y t ∙ ((λ i. reads_keep (λ (v : View). v.held) (λ _ _. refl) u (filling row) i ++ held_at_hand (option_map (guarding k y) (s.at i))) ∙ (λ i. u.held ++ record { slot = slot i; text = words i } ∷ [])))

  pub missing : (n : ℕ) (ws : List ℕ) (v : View) → closed_of x ≡ 0 → Standing row h x n 0 ws v → Missing row h v
  missing n ws v unclosed s = record { walk = s.walk; at = s.at; head = s.head; unclosed = ap closed_of s.word ∙ unclosed; ended = s.place; others = s.others }

pub reads_walk : (v : View) (w : Walk) (ws : List ℕ) → v.walk ≡ Some w → (after v (reads ws)).walk ≡ Some (record w { part = w.part ++ ws })
reads_walk v w [] e = e ∙ ap (λ (t : List ℕ). let y : Walk = record w { part = t } in Some y) (sym (append-nil w.part))
reads_walk v w (x ∷ ws) e = reads_walk (view_after v (Read x)) (reading x w) ws (ap (option_map (reading x)) e) ∙ ap (λ (t : List ℕ). let y : Walk = record w { part = t } in Some y) (append_assoc w.part (x ∷ []) ws)

-- a slot at hand that was protected was found in that state
pub guard_set : (g : Bool) (p q x n : ℕ) → p ≡ q → x ≡ n → (g || ((p == q) && (x == n))) ≡ true
guard_set true p q x n e f = refl
guard_set false p q x n e f = let here : (p == q) ≡ true = eq-eqb p q e in let state : (x == n) ≡ true = eq-eqb x n f in λ i. here i && state i

-- a seat that walks does so still
pub walking_as : (v w : View) → Aside v w → Walking v → Walking w
walking_as v w a t = (⊎_elim (λ (e : v.cycle.engine ≢ 0). inl (λ none. e (ap (λ (y : Cycling). y.engine) (sym a.cycle) ∙ none))) (λ (e : 0 < v.undealt). inr (subst (λ (n : ℕ). 0 < n) (sym a.undealt) e)) t.0, a.sweep ∙ t.1)

pub passed_aside : (v u : View) (ps : List Passed) → u ≡ after v (passes ps) → Aside v u
passed_aside v u ps is = subst (Aside v) (sym is) (aside_passes v ps)

pub read_aside : (v u t : View) (ps : List Passed) (ws : List ℕ) → u ≡ after v (passes ps) → t ≡ after u (reads ws) → Aside v t
read_aside v u t ps ws is now = aside_trans v u t (passed_aside v u ps is) (subst (Aside u) (sym now) (aside_reads u ws))

-- what is alone stays so while no slot is held
pub alone_as : (v u : View) (k : ℕ) (t : List ℕ) → u.held ≡ v.held → u.fixed ≡ v.fixed → Alone u k t → Alone v k t
alone_as v u k t held fixed alone a ours = alone a (⊎_elim (λ (h : In a v.held). inl (subst (In a) (sym held) h)) (λ (h : In a v.fixed). inr (subst (In a) (sym fixed) h)) ours)

pub read_held : (v u t : View) (ps : List Passed) (ws : List ℕ) → u ≡ after v (passes ps) → t ≡ after u (reads ws) → t.held ≡ v.held
read_held v u t ps ws is now = ap (λ (y : View). y.held) now ∙ (reads_keep (λ (y : View). y.held) (λ _ _. refl) u ws ∙ (ap (λ (y : View). y.held) is ∙ passes_keep (λ (y : View). y.held) keeps_held v ps))

-- what follows where a slot is held
pub alone_by : (r : Result (Option ℕ) Missed) (A B : Type 0) → (A → B) → IfOk r (λ o. MatchOption o A (λ _. Unit {0})) → IfOk r (λ o. MatchOption o B (λ _. Unit {0}))
alone_by (Ok None) A B f h = f h
alone_by (Ok (Some x)) A B f h = tt
alone_by (Err m) A B f h = tt

-- THE END OF A WALK
meets_steps : (ws : List ℕ) (u t w : View) (ks : List Kind) → t ≡ after u (reads ws) → w ≡ after t ks → w ≡ after u (reads ws ++ ks)
meets_steps ws u t w ks now last = last ∙ (ap (λ (y : View). after y ks) now ∙ sym (after_both u (reads ws) ks))

-- a slot whose text was read whole
pub met_by : (row : List ℕ) (k word : ℕ) (u t w : View) (r : Result (Option ℕ) Missed) → t ≡ after u (reads (filling row)) → Ends k word t r w → Meets row k word u r w
met_by row k word u t w (Ok None) now e = (e.0, e.1, e.2, meets_steps (filling row) u t w (guards e.1 k e.0 ++ Hold ∷ []) now e.3)
met_by row k word u t w (Ok (Some l)) now e = let ks : List Kind = guards e.1 k e.0 ++ Skip l ∷ [] in
    (record { part = filling row; dying = Some (record { slot = k; loaded = e.1; word = e.0 }); link = l }, refl, (refl, e.2), meets_steps (filling row) u t w ks now e.3 ∙ ap (λ (js : List Kind). after u (reads (filling row) ++ js)) (sym (append-nil ks)))
met_by row k word u t w (Err (Moved old new)) now e = (e.0, e.1, (e.2.0, e.2.1, meets_steps (filling row) u t w (guards e.2.1 k e.2.0 ++ Refuse (Again (CauseMoved old new)) ∷ []) now e.2.2))
met_by row k word u t w (Err (Pending j x)) now e = (e.0, e.1, (e.2.0, meets_steps (filling row) u t w (guards e.2.0 k x ++ Refuse (Again (CausePending k x)) ∷ []) now e.2.1))
met_by row k word u t w (Err (Closed x)) now e = absurd e
met_by row k word u t w (Err (Worn x)) now e = absurd e

module _ (row : List ℕ) (v u : View) (ps : List Passed) (few : length ps ≤ v.size.slots) (others : Others row ps) (is : u ≡ after v (passes ps)) where
  walks_by : (ks : List Kind) (w : View) → w ≡ after v (passes ps ++ ks) → WalksBy row v ks w
  walks_by ks w steps = record { passed = ps; few = few; others = others; steps = steps }

  pub goes_none : Goes row v (Ok None) u
  goes_none = walks_by [] u (is ∙ ap (after v) (sym (append-nil (passes ps))))

  on_from : (ks : List Kind) (w : View) → w ≡ after u ks → w ≡ after v (passes ps ++ ks)
  on_from ks w e = e ∙ (ap (λ (y : View). after y ks) is ∙ sym (after_both v (passes ps) ks))

  pub goes_ok : (k word : ℕ) (w : View) → Meets row k word u (Ok None) w → Goes row v (Ok (Some k)) w
  goes_ok k word w e = (e.0, e.1, e.2, walks_by (meets row e.1 k e.0 (Hold ∷ [])) w (on_from (meets row e.1 k e.0 (Hold ∷ [])) w e.3))

  pub goes_err : (k word : ℕ) (w : View) (m : Missed) → Meets row k word u (Err m) w → Goes row v (Err m) w
  goes_err k word w (Moved old new) e = let q = e.2 in (e.1, inr (k, q.0, q.1, walks_by (meets row q.1 k q.0 (Refuse (Again (CauseMoved old new)) ∷ [])) w (on_from (meets row q.1 k q.0 (Refuse (Again (CauseMoved old new)) ∷ [])) w q.2)))
  goes_err k word w (Pending j x) e = (
    e.1,
    (let o = e.2.0 in (
      o,
      walks_by (meets row o j x (Refuse (Again (CausePending j x)) ∷ [])) w (subst (λ (i : ℕ). w ≡ after v (passes ps ++ meets row o i x (Refuse (Again (CausePending i x)) ∷ []))) (sym e.0)
          (on_from (meets row o k x (Refuse (Again (CausePending k x)) ∷ [])) w e.2.1)),
    )),
  )
  goes_err k word w (Closed x) e = absurd e
  goes_err k word w (Worn x) e = absurd e

  pub goes_moved : (word : ℕ) (w : View) (m : Missed) → ((x : ℕ) × (m ≡ Moved word x) × (version_of x ≢ version_of word) × (w ≡ after u (Refuse (Again (CauseMoved word x)) ∷ []))) → Goes row v (Err m) w
  goes_moved word w m e = subst (λ (y : Missed). Goes row v (Err y) w) (sym e.1) (
    e.2,
    inl (walks_by (Refuse (Again (CauseMoved word e.0)) ∷ []) w
        (e.3 ∙ (ap (λ (y : View). after y (Refuse (Again (CauseMoved word e.0)) ∷ [])) is ∙ sym (after_both v (passes ps) (Refuse (Again (CauseMoved word e.0)) ∷ []))))),
  )

-- A SLOT IS MADE READY
pub missing_as : (row : List ℕ) (h : ℕ) (v w : View) → w.walk ≡ v.walk → Missing row h v → Missing row h w
missing_as row h v w same m = record { walk = m.walk; at = same ∙ m.at; head = m.head; unclosed = m.unclosed; ended = m.ended; others = m.others }

-- what a reserve that takes the slot leaves
pub record Reserved (k : ℕ) (v w : View) : Type 0 where
  pub own : w.own ≡ Some (fresh k)
  pub walk : w.walk ≡ v.walk
  pub held : w.held ≡ v.held
  pub fixed : w.fixed ≡ v.fixed
  pub size : w.size ≡ v.size
  pub gone : w.gone ≡ v.gone

pub reserved_as : (v : View) (k : ℕ) (w : View) → Reserves v k w → Reserved k v w
reserved_as v k w r = subst (Reserved k v) (sym r.1) (record { own = refl; walk = refl; held = refl; fixed = refl; size = refl; gone = refl })

-- a reserved slot is ready once its text is put
pub ready_put : (row : List ℕ) (k : ℕ) (v w : View) → IsTextRow row → v.own ≡ Some (fresh k) → MissingIn row v → PutsRow row v w → Ready w
ready_put row k v w text own m is = let o = row_own (fresh k) row v w refl own is in (
  record { slot = k; text = row; bound = o.0; link = None; linked = false },
  o.1,
  refl,
  text.0,
  (m.0, m.1, missing_as row (bucket m.0 row) v w (row_keeps (λ (y : View). y.walk) (λ _ _. refl) (λ _ _. refl) (λ _ _ _. refl) (λ _. refl) row v w is) m.2),
  text.2,
)

-- a walk whose row word was loaded first
pub aside_loaded : (v : View) (i x : ℕ) → Aside v (after v (Load i x ∷ []))
aside_loaded v i x = record { gone = refl; size = refl; own = refl; fixed = refl; counts = refl; pass = refl; asked = refl; undealt = refl; cycle = refl; sweep = refl; risen = refl }

pub held_loaded : (row : List ℕ) (v : View) (i x : ℕ) (r : Result (Option ℕ) Missed) → held_after row (after v (Load i x ∷ [])) r ≡ held_after row v r
held_loaded row v i x (Ok None) = refl
held_loaded row v i x (Ok (Some k)) = refl
held_loaded row v i x (Err e) = refl

pub refused_loaded : (v : View) (i x : ℕ) (r : Result (Option ℕ) Missed) → refused_after (after v (Load i x ∷ [])) r ≡ refused_after v r
refused_loaded v i x (Ok o) = refl
refused_loaded v i x (Err (Moved old new)) = refl
refused_loaded v i x (Err (Pending k y)) = refl
refused_loaded v i x (Err (Closed y)) = refl
refused_loaded v i x (Err (Worn y)) = refl

pub last_loaded : (row : List ℕ) (s n i x : ℕ) (v w : View) (r : Result (Option ℕ) Missed) → 256 ≤ 2 ^ s → IfOk r (λ o. MatchOption o (Missing row (bucket s row) w) (λ a. (a < n) × Alone (after v (Load i x ∷ [])) a row))
    → IfOk r (λ o. MatchOption o (MissingIn row w) (λ a. (a < n) × Alone v a row))
last_loaded row s n i x v w (Ok None) wide e = (s, wide, e)
last_loaded row s n i x v w (Ok (Some k)) wide e = e
last_loaded row s n i x v w (Err f) wide e = e
