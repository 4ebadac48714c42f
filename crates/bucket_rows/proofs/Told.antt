-- What a walk's steps say of the view at its end.
use Rattle.std.proofs.Common.{◌≡◌, ◌⊎◌, ◌<◌, ◌++◌, ℕ, List, [], ◌∷◌, refl, sym, ap, ◌∙◌, subst, inl, inr, ⊎_elim, Option, Some, None, Ok, Err, Result, IfOk, MatchOption, append-nil, option_map}
use Rattle.atom_words.specs.Kinds.{reading, going_on, skipping, guarding, view_after, after}
use Rattle.atom_words.specs.Layout.{closed_of}
use Rattle.atom_words.specs.Plays.{Alone}
use Rattle.atom_words.specs.Ties.{walk_head, walk_word}
use Rattle.atom_words.specs.declared.view.Walk.{Walk}
use Rattle.atom_words.specs.declared.view.Cause.TheVariants.{Moved as CauseMoved, Pending as CausePending}
use Rattle.atom_words.specs.declared.view.Refusal.{Refusal}
use Rattle.atom_words.specs.declared.view.Refusal.TheVariants.{Again}
use Rattle.atom_words.specs.declared.view.View.{View}
use Rattle.atom_words.specs.declared.kind.Kind.{Kind}
use Rattle.atom_words.specs.declared.kind.Kind.TheVariants.{Start, Hold, Refuse}
use Rattle.bucket_rows.specs.declared.missed.Missed.{Missed}
use Rattle.bucket_rows.specs.declared.missed.Missed.TheVariants.{Moved, Pending, Closed, Worn}
use Rattle.bucket_rows.specs.Walks.{Passed, filling, reads, guards, passes, meets, WalksBy, Goes, Walks, Missing, Aside, held_after, refused_after}
use Rattle.bucket_rows.specs.Standing.{Standing}
use Rattle.bucket_rows.proofs.Reading.{after_both, guarded_as, aside_trans, aside_passes, aside_reads, reads_keep, passes_keep, keeps_held, keeps_refusals, missing}

-- a function of the walk that reading, going on, going past and protecting leave
pub record Steady (f : Option Walk → ℕ) : Type 0 where
  pub read : (x : ℕ) (o : Option Walk) → f (option_map (reading x) o) ≡ f o
  pub next : (x : ℕ) (o : Option Walk) → f (option_map (going_on x) o) ≡ f o
  pub skip : (x : ℕ) (o : Option Walk) → f (option_map (skipping x) o) ≡ f o
  pub guard : (k x : ℕ) (o : Option Walk) → f (option_map (guarding k x) o) ≡ f o

same_head : (d : ℕ) (g : Walk → Walk) → ((w : Walk) → (g w).head ≡ w.head) → (o : Option Walk) → walk_head d (option_map g o) ≡ walk_head d o
same_head d g same None = refl
same_head d g same (Some w) = same w

same_word : (d : ℕ) (g : Walk → Walk) → ((w : Walk) → (g w).word ≡ w.word) → (o : Option Walk) → walk_word d (option_map g o) ≡ walk_word d o
same_word d g same None = refl
same_word d g same (Some w) = same w

pub steady_head : (d : ℕ) → Steady (walk_head d)
steady_head d = record { read = λ x o. same_head d (reading x) (λ w. refl) o; next = λ x o. same_head d (going_on x) (λ w. refl) o; skip = λ x o. same_head d (skipping x) (λ w. refl) o; guard = λ k x o. same_head d (guarding k x) (λ w. refl) o }

pub steady_word : (d : ℕ) → Steady (walk_word d)
steady_word d = record { read = λ x o. same_word d (reading x) (λ w. refl) o; next = λ x o. same_word d (going_on x) (λ w. refl) o; skip = λ x o. same_word d (skipping x) (λ w. refl) o; guard = λ k x o. same_word d (guarding k x) (λ w. refl) o }

-- the view t, after slots were passed and perhaps the text was read
record Brought (f : Option Walk → ℕ) (v t : View) : Type 0 where
  aside : Aside v t
  held : t.held ≡ v.held
  refusals : t.refusals ≡ v.refusals
  walk : f t.walk ≡ f v.walk

module _ (f : Option Walk → ℕ) (steady : Steady f) (row : List ℕ) (v : View) where
  passed : (ps : List Passed) → Brought f v (after v (passes ps))
  passed ps = record {
    aside = aside_passes v ps;
    held = passes_keep (λ (y : View). y.held) keeps_held v ps;
    refusals = passes_keep (λ (y : View). y.refusals) keeps_refusals v ps;
    walk = passes_keep (λ (y : View). f y.walk) (record { read = λ y x. steady.read x y.walk; next = λ y x. steady.next x y.walk; guard = λ y k x. steady.guard k x y.walk; load = λ y i x. refl; skip = λ y x. steady.skip x y.walk }) v ps;
  }

  met : (ps : List Passed) → Brought f v (after (after v (passes ps)) (reads (filling row)))
  met ps = let u : View = after v (passes ps) in let p = passed ps in record {
    aside = aside_trans v u (after u (reads (filling row))) p.aside (aside_reads u (filling row));
    held = reads_keep (λ (y : View). y.held) (λ _ _. refl) u (filling row) ∙ p.held;
    refusals = reads_keep (λ (y : View). y.refusals) (λ _ _. refl) u (filling row) ∙ p.refusals;
    walk = reads_keep (λ (y : View). f y.walk) (λ y x. steady.read x y.walk) u (filling row) ∙ p.walk;
  }

  -- what is told of the view w, where r are the refusals that the end adds
  pub record Tells (r : List Refusal) (w : View) : Type 0 where
    pub aside : Aside v w
    pub refusals : w.refusals ≡ v.refusals ++ r
    pub walk : (f w.walk ≡ f v.walk) ⊎ (w.walk ≡ None)

  still : (t : View) → Aside t t
  still t = record { gone = refl; size = refl; own = refl; fixed = refl; counts = refl; pass = refl; asked = refl; undealt = refl; cycle = refl; sweep = refl; risen = refl }

  refusing : (t : View) (r : Refusal) → Aside t (view_after t (Refuse r))
  refusing t r = record { gone = refl; size = refl; own = refl; fixed = refl; counts = refl; pass = refl; asked = refl; undealt = refl; cycle = refl; sweep = refl; risen = refl }

  ending : (t : View) → Aside t (view_after t Hold)
  ending t = record { gone = refl; size = refl; own = refl; fixed = refl; counts = refl; pass = refl; asked = refl; undealt = refl; cycle = refl; sweep = refl; risen = refl }

  at_none : (w : View) → WalksBy row v [] w → Tells [] w
  at_none w b = let t : View = after v (passes b.passed) in let p = passed b.passed in let is : t ≡ w = sym (b.steps ∙ after_both v (passes b.passed) []) in
      subst (Tells []) is (record { aside = p.aside; refusals = p.refusals ∙ sym (append-nil v.refusals); walk = inl p.walk })

  at_refusal : (r : Refusal) (w : View) → WalksBy row v (Refuse r ∷ []) w → Tells (r ∷ []) w
  at_refusal r w b = let t : View = after v (passes b.passed) in let p = passed b.passed in let is : view_after t (Refuse r) ≡ w = sym (b.steps ∙ after_both v (passes b.passed) (Refuse r ∷ [])) in
      subst (Tells (r ∷ [])) is (record { aside = aside_trans v t (view_after t (Refuse r)) p.aside (refusing t r); refusals = ap (λ l. l ++ r ∷ []) p.refusals; walk = inl p.walk })

  met_is : (w : View) (ps : List Passed) (ks : List Kind) → w ≡ after v (passes ps ++ (reads (filling row) ++ ks)) → after (after (after v (passes ps)) (reads (filling row))) ks ≡ w
  met_is w ps ks e = sym (e ∙ (after_both v (passes ps) (reads (filling row) ++ ks) ∙ after_both (after v (passes ps)) (reads (filling row)) ks))

  -- at a slot of the text, once it is protected
  met_guarded : (ps : List Passed) (o : Option (ℕ × ℕ)) (k x : ℕ) → Brought f v (after (after (after v (passes ps)) (reads (filling row))) (guards o k x))
  met_guarded ps o k x = let t : View = after (after v (passes ps)) (reads (filling row)) in let u : View = after t (guards o k x) in let p = met ps in let g = guarded_as t u o k x refl in record {
    aside = aside_trans v t u p.aside g.aside;
    held = g.held ∙ p.held;
    refusals = g.refusals ∙ p.refusals;
    walk = ap f g.walk ∙ (steady.guard k x t.walk ∙ p.walk);
  }

  guarded_is : (w : View) (ps : List Passed) (o : Option (ℕ × ℕ)) (k x : ℕ) (ks : List Kind) → w ≡ after v (passes ps ++ (reads (filling row) ++ (guards o k x ++ ks))) → after (after (after (after v (passes ps)) (reads (filling row))) (guards o k x)) ks ≡ w
  guarded_is w ps o k x ks e = sym (after_both (after (after v (passes ps)) (reads (filling row))) (guards o k x) ks) ∙ met_is w ps (guards o k x ++ ks) e

  met_refusal : (o : Option (ℕ × ℕ)) (k x : ℕ) (r : Refusal) (w : View) → WalksBy row v (meets row o k x (Refuse r ∷ [])) w → Tells (r ∷ []) w
  met_refusal o k x r w b = let u : View = after (after (after v (passes b.passed)) (reads (filling row))) (guards o k x) in let p = met_guarded b.passed o k x in
      subst (Tells (r ∷ [])) (guarded_is w b.passed o k x (Refuse r ∷ []) b.steps) (record {
        aside = aside_trans v u (view_after u (Refuse r)) p.aside (refusing u r);
        refusals = ap (λ l. l ++ r ∷ []) p.refusals;
        walk = inl p.walk;
      })

  met_hold : (o : Option (ℕ × ℕ)) (k x : ℕ) (w : View) → WalksBy row v (meets row o k x (Hold ∷ [])) w → Tells [] w
  met_hold o k x w b = let u : View = after (after (after v (passes b.passed)) (reads (filling row))) (guards o k x) in let p = met_guarded b.passed o k x in
      subst (Tells []) (guarded_is w b.passed o k x (Hold ∷ []) b.steps) (record {
        aside = aside_trans v u (view_after u Hold) p.aside (ending u);
        refusals = p.refusals ∙ sym (append-nil v.refusals);
        walk = inr refl;
      })

  -- the refusals that an answer adds
  abbrev pub adds : Result (Option ℕ) Missed → List Refusal
  adds (Ok o) = []
  adds (Err (Moved old new)) = Again (CauseMoved old new) ∷ []
  adds (Err (Pending k x)) = Again (CausePending k x) ∷ []
  adds (Err (Closed x)) = []
  adds (Err (Worn x)) = []

  pub goes_tells : (r : Result (Option ℕ) Missed) (w : View) → Goes row v r w → Tells (adds r) w
  goes_tells (Ok None) w g = at_none w g
  goes_tells (Ok (Some k)) w g = met_hold g.1 k g.0 w g.3
  goes_tells (Err (Moved old new)) w g = ⊎_elim (λ (b : WalksBy row v (Refuse (Again (CauseMoved old new)) ∷ []) w). at_refusal (Again (CauseMoved old new)) w b)
      (λ (b : (k : ℕ) × (x : ℕ) × (o : Option (ℕ × ℕ)) × WalksBy row v (meets row o k x (Refuse (Again (CauseMoved old new)) ∷ [])) w). met_refusal b.2 b.0 b.1 (Again (CauseMoved old new)) w b.3) g.1
  goes_tells (Err (Pending k x)) w g = met_refusal g.1.0 k x (Again (CausePending k x)) w g.1.1
  goes_tells (Err (Closed x)) w g = absurd g
  goes_tells (Err (Worn x)) w g = absurd g

-- a refusal at a slot of the text leaves what is held
refused_held : (row : List ℕ) (v w : View) (o : Option (ℕ × ℕ)) (k x : ℕ) (r : Refusal) → WalksBy row v (meets row o k x (Refuse r ∷ [])) w → w.held ≡ v.held
refused_held row v w o k x r b = let u : View = after v (passes b.passed) in let t : View = after u (reads (filling row)) in let ks : List Kind = guards o k x ++ Refuse r ∷ [] in
    ap (λ (y : View). y.held) (b.steps ∙ (after_both v (passes b.passed) (reads (filling row) ++ ks) ∙ (after_both u (reads (filling row)) ks ∙ after_both t (guards o k x) (Refuse r ∷ []))))
    ∙ ((guarded_as t (after t (guards o k x)) o k x refl).held ∙ (reads_keep (λ (y : View). y.held) (λ _ _. refl) u (filling row) ∙ passes_keep (λ (y : View). y.held) keeps_held v b.passed))

-- what an answer other than a slot leaves held
pub goes_held : (row : List ℕ) (v w : View) (m : Missed) → Goes row v (Err m) w → w.held ≡ v.held
goes_held row v w (Moved old new) g = ⊎_elim
    (λ (b : WalksBy row v (Refuse (Again (CauseMoved old new)) ∷ []) w). ap (λ (y : View). y.held) (b.steps ∙ after_both v (passes b.passed) (Refuse (Again (CauseMoved old new)) ∷ [])) ∙ passes_keep (λ (y : View). y.held) keeps_held v b.passed)
    (λ (b : (k : ℕ) × (x : ℕ) × (o : Option (ℕ × ℕ)) × WalksBy row v (meets row o k x (Refuse (Again (CauseMoved old new)) ∷ [])) w). refused_held row v w b.2 b.0 b.1 (Again (CauseMoved old new)) b.3) g.1
goes_held row v w (Pending k x) g = refused_held row v w g.1.0 k x (Again (CausePending k x)) g.1.1
goes_held row v w (Closed x) g = absurd g
goes_held row v w (Worn x) g = absurd g

-- THE WALK FROM ITS START
module _ (row : List ℕ) (h x : ℕ) (v u w : View) (is : u ≡ view_after v (Start h x)) (unclosed : closed_of x ≡ 0) where
  pub walks_steps : (r : Result (Option ℕ) Missed) → ((old new : ℕ) → r ≡ Err (Moved old new) → old ≡ x) → Goes row u r w → Walks row h v r w
  walks_steps (Ok o) word g = (x, unclosed, subst (λ (y : View). Goes row y (Ok o) w) is g)
  walks_steps (Err (Moved old new)) word g = let e : old ≡ x = word old new refl in
      (ap closed_of e ∙ unclosed, subst (λ (n : ℕ). Goes row (view_after v (Start h n)) (Err (Moved old new)) w) (sym e) (subst (λ (y : View). Goes row y (Err (Moved old new)) w) is g))
  walks_steps (Err (Pending k y)) word g = (x, unclosed, subst (λ (t : View). Goes row t (Err (Pending k y)) w) is g)
  walks_steps (Err (Closed y)) word g = absurd g
  walks_steps (Err (Worn y)) word g = absurd g

  starts : Aside v u
  starts = subst (Aside v) (sym is) (record { gone = refl; size = refl; own = refl; fixed = refl; counts = refl; pass = refl; asked = refl; undealt = refl; cycle = refl; sweep = refl; risen = refl })

  pub walks_aside : (r : Result (Option ℕ) Missed) → Goes row u r w → Aside v w
  walks_aside r g = aside_trans v u w starts (goes_tells (walk_head 0) (steady_head 0) row u r w g).aside

  pub walks_refused : (r : Result (Option ℕ) Missed) → Goes row u r w → w.refusals ≡ refused_after v r
  walks_refused (Ok o) g = (goes_tells (walk_head 0) (steady_head 0) row u (Ok o) w g).refusals ∙ (append-nil u.refusals ∙ ap (λ (y : View). y.refusals) is)
  walks_refused (Err (Moved old new)) g = (goes_tells (walk_head 0) (steady_head 0) row u (Err (Moved old new)) w g).refusals ∙ ap (λ (y : View). y.refusals ++ Again (CauseMoved old new) ∷ []) is
  walks_refused (Err (Pending k y)) g = (goes_tells (walk_head 0) (steady_head 0) row u (Err (Pending k y)) w g).refusals ∙ ap (λ (t : View). t.refusals ++ Again (CausePending k y) ∷ []) is
  walks_refused (Err (Closed y)) g = absurd g
  walks_refused (Err (Worn y)) g = absurd g

  -- what the last part tells of the slot
  abbrev pub Lasts : ℕ → Result (Option ℕ) Missed → Type 0
  Lasts slots r = IfOk r (λ o. MatchOption o ((n : ℕ) × Standing row h x n 0 [] w) (λ k. (k < slots) × Alone u k row × (w.held ≡ held_after row u r)))

  pub walks_held : (slots : ℕ) (r : Result (Option ℕ) Missed) → Goes row u r w → Lasts slots r → w.held ≡ held_after row v r
  walks_held slots (Ok None) g l = ap (λ (y : View). y.held) (g.steps ∙ after_both u (passes g.passed) []) ∙ (passes_keep (λ (y : View). y.held) keeps_held u g.passed ∙ ap (λ (y : View). y.held) is)
  walks_held slots (Ok (Some k)) g l = l.2 ∙ ap (λ (y : View). y.held ++ record { slot = k; text = row } ∷ []) is
  walks_held slots (Err m) g l = goes_held row u w m g ∙ ap (λ (y : View). y.held) is

  pub walks_last : (slots : ℕ) (r : Result (Option ℕ) Missed) → Lasts slots r → IfOk r (λ o. MatchOption o (Missing row h w) (λ a. (a < slots) × Alone v a row))
  walks_last slots (Ok None) l = missing row h x l.0 [] w unclosed l.1
  walks_last slots (Ok (Some k)) l = (l.0, subst (λ (y : View). Alone y k row) is l.1)
  walks_last slots (Err m) l = tt

  pub walks_tied : (r : Result (Option ℕ) Missed) → Goes row u r w → (walk_head h w.walk ≡ h) × (walk_word x w.walk ≡ x)
  walks_tied r g = (
    ⊎_elim (λ (e : walk_head h w.walk ≡ walk_head h u.walk). e ∙ ap (λ (y : View). walk_head h y.walk) is) (λ (e : w.walk ≡ None). ap (walk_head h) e) (goes_tells (walk_head h) (steady_head h) row u r w g).walk,
    ⊎_elim (λ (e : walk_word x w.walk ≡ walk_word x u.walk). e ∙ ap (λ (y : View). walk_word x y.walk) is) (λ (e : w.walk ≡ None). ap (walk_word x) e) (goes_tells (walk_word x) (steady_word x) row u r w g).walk,
  )
