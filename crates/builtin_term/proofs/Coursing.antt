-- What a walk awaits of the compound terms that it is within.
use Rattle.std.proofs.Common.{◌≡◌, inl, inr, ℕ, zero, suc, ◌≤◌, true, false, List, [], ◌∷◌, ◌++◌, length, drop, refl, sym, ap, subst, ◌∙◌, append_assoc, append-nil}
use Rattle.std.specs.List.{All}
use Rattle.std.proofs.lemmas.List.{drop_all}
use Rattle.std.proofs.Math.Seq.{drop-append_seam}
use Rattle.std.proofs.lemmas.List.Elements.{All-append, All-cons, All-head, All-nil, All-push, All-same, All-tail, All-weaker}
use Rattle.term_store.specs.declared.known_pairs.KnownPair.{KnownPair}
use Rattle.builtin_term.specs.declared.course.Opened.{Opened}
use Rattle.builtin_term.specs.Courses.{Awaits, Enters, Leaves, LeavesOne, pairs_of}

pub leaves_none : (n : ℕ) (os : List Opened) (ks : List KnownPair) → Leaves n os ks os ks
leaves_none n os ks =
    record { last = []; split = sym (append-nil os); over = All-nil (λ o. n ≤ o.height); moved = sym (append-nil ks) }

pub leaves_more : (n : ℕ) (os : List Opened) (ks : List KnownPair) (os' : List Opened) (ks' : List KnownPair) (os'' : List Opened) (ks'' : List KnownPair)
    → Leaves n os ks os' ks' → LeavesOne true n os' ks' os'' ks'' → Leaves n os ks os'' ks''
leaves_more n os ks os' ks' os'' ks'' l one =
    let o = one.0 in
    record {
      last = o ∷ l.last;
      split = l.split ∙ ap (λ xs. xs ++ l.last) one.1.0 ∙ append_assoc os'' (o ∷ []) l.last;
      over = All-cons (λ x. n ≤ x.height) o l.last one.1.1.0 l.over;
      moved = one.1.1.1 ∙ ap (λ xs. xs ++ o.pair ∷ []) l.moved ∙ append_assoc ks (pairs_of l.last) (o.pair ∷ []);
    }

pub leaves_same : (n : ℕ) (os : List Opened) (ks : List KnownPair) (os' : List Opened) (ks' : List KnownPair) (os'' : List Opened) (ks'' : List KnownPair)
    → Leaves n os ks os' ks' → LeavesOne false n os' ks' os'' ks'' → Leaves n os ks os'' ks''
leaves_same n os ks os' ks' os'' ks'' l one =
    record {
      last = l.last;
      split = l.split ∙ ap (λ xs. xs ++ l.last) (sym one.0);
      over = l.over;
      moved = one.1 ∙ l.moved;
    }

-- The parts of a list.
pub parted : {X : Type 0} (P : X → Type 0) (xs ys : List X) → All P (xs ++ ys) → All P xs × All P ys
parted P [] ys h = (All-nil P, h)
parted P (x ∷ xs) ys h =
    let r : All P xs × All P ys = parted P xs ys (All-tail P x (xs ++ ys) h) in (All-cons P x xs (All-head P x (xs ++ ys) h) r.0, r.1)

module _ {X : Type 0} (E : X → Type 0) (S : KnownPair → Type 0) where
  -- Of a pair that the walk leaves it has looked at all parts.
  left_all : (ws : List X) (os : List Opened) → All (λ o. length ws ≤ o.height) os → All (Awaits E S ws) os → All S (pairs_of os)
  left_all ws [] over all = All-nil S
  left_all ws (o ∷ os) over all =
      let past : drop o.height ws ≡ [] = drop_all o.height ws (All-head (λ x. length ws ≤ x.height) o os over) in
      All-push S (pairs_of os) o.pair (left_all ws os (All-tail (λ x. length ws ≤ x.height) o os over) (All-tail (Awaits E S ws) o os all))
      (All-head (Awaits E S ws) o os all (subst (All E) (sym past) (All-nil E)))

  pub after_leaving : (ws : List X) (n : ℕ) (os : List Opened) (ks : List KnownPair) (os' : List Opened) (ks' : List KnownPair) → n ≡ length ws
      → Leaves n os ks os' ks' → All (Awaits E S ws) os → All S ks → All (Awaits E S ws) os' × All S ks'
  after_leaving ws n os ks os' ks' e l awaits known =
      let split : All (Awaits E S ws) os' × All (Awaits E S ws) l.last = parted (Awaits E S ws) os' l.last (subst (All (Awaits E S ws)) l.split awaits) in
      let over : All (λ o. length ws ≤ o.height) l.last = subst (λ m. All (λ o. m ≤ o.height) l.last) e l.over in
      (split.0, All-same S ks' (ks ++ pairs_of l.last) l.moved (All-append S ks (pairs_of l.last) known (left_all ws l.last over split.1)))

  -- The last item of the stack gives way to others, of which it is made.
  all_moved : (ws us : List X) (w : X) → (All E us → E w) → All E (ws ++ us) → All E (ws ++ w ∷ [])
  all_moved ws us w f all = let r : All E ws × All E us = parted E ws us all in All-push E ws w r.0 (f r.1)

  moved : (ws us : List X) (w : X) (n : ℕ) (p : KnownPair) → (All E us → E w) → (All E (drop n (ws ++ w ∷ [])) → S p) → All E (drop n (ws ++ us)) → S p
  moved ws us w zero p f h all = h (all_moved ws us w f all)
  moved [] us w (suc n) p f h all = h (subst (All E) (sym (none n)) (All-nil E))
    where
      none : (k : ℕ) → drop (suc k) (w ∷ []) ≡ []
      none zero = refl
      none (suc k) = refl
  moved (v ∷ ws) us w (suc n) p f h all = moved ws us w n p f h all

  pub goes_on : (ws us vs : List X) (w : X) (os : List Opened) → vs ≡ ws ++ us → (All E us → E w) → All (Awaits E S (ws ++ w ∷ [])) os
      → All (Awaits E S vs) os
  goes_on ws us vs w os e f all =
      All-weaker (Awaits E S (ws ++ w ∷ [])) (Awaits E S vs) (λ o h now. moved ws us w o.height o.pair f h (subst (λ xs. All E (drop o.height xs)) e now)) os all

  -- A pair is entered, whose parts are put on the stack.
  pub entered : (ws us vs : List X) (p : KnownPair) (n : ℕ) (os : List Opened) (ks : List KnownPair) (os' : List Opened) → vs ≡ ws ++ us → n ≡ length ws
      → (All E us → S p) → Enters true p n os ks os' → All (Awaits E S vs) os → All (Awaits E S vs) os'
  entered ws us vs p n os ks os' e long f (inl same) all = subst (All (Awaits E S vs)) (sym same) all
  entered ws us vs p n os ks os' e long f (inr more) all =
      let top : drop n vs ≡ us = ap (λ k. drop k vs) long ∙ ap (drop (length ws)) e ∙ drop-append_seam ws us in
      All-same (Awaits E S vs) os' (os ++ record { pair = p; height = n } ∷ []) more
      (All-push (Awaits E S vs) os (record { pair = p; height = n }) all (λ now. f (subst (All E) top now)))
