-- A change of rows: the collector's view from step to step.
use Rattle.std.proofs.Common.{◌≡◌, ◌≢◌, ◌⊎◌, ℕ, ◌+◌, ◌-◌, ◌^◌, ◌<◌, ◌≤◌, List, [], ◌∷◌, ◌++◌, length, map, refl, sym, ap, ◌∙◌, subst, inl, inr, ⊎_elim, arith, Option, Some, None, MatchOption, option_map, length-append, append-nil, append_assoc}
use Rattle.atom_words.specs.Layout.{first_of, row_first}
use Rattle.atom_words.specs.Board.{head_at}
use Rattle.atom_words.specs.Kinds.{Idle, MovesChains, Picks, old_head, at_hand, starting, reading, going_on, picked_slot, view_after, after}
use Rattle.atom_words.specs.Ties.{walk_head, walk_word, WalkTied}
use Rattle.atom_words.specs.declared.size.Size.{Size}
use Rattle.atom_words.specs.declared.view.Held.{Held}
use Rattle.atom_words.specs.declared.view.Growing.{Growing}
use Rattle.atom_words.specs.declared.view.View.{View}
use Rattle.atom_words.specs.declared.kind.Kind.{Kind}
use Rattle.atom_words.specs.declared.kind.Kind.TheVariants.{Load, Start, Read, Next, Aim, Sound, Close, Emptied, Pick, MoveHead, MoveLink, PublishRow, Publish}
use Rattle.bucket_rows.specs.Treads.{nexts}
use Rattle.bucket_rows.specs.RowPlays.{Inside}
use Rattle.bucket_rows.specs.Walks.{reads}
use Rattle.bucket_rows.specs.RowChanges.{RowKinds, RowSteps, Rowing, FoundWorn, Paces, AtEnd}
use Rattle.bucket_rows.proofs.Checks.{after_append}
use Rattle.bucket_rows.proofs.RowPicks.{picks_next}
use Rattle.bucket_rows.proofs.Reading.{reads_keep}
use Rattle.atom_words.proofs.Slices.{some_same}
use Rattle.bucket_rows.proofs.RowLaws.{kinds_join}

-- WHAT THE COLLECTOR KNOWS OF THE ROWS
pub idle_on : (v w : View) → w.sweep ≡ v.sweep → Idle v → Idle w
idle_on v w e i = (i.0, e ∙ i.1, i.2)

pub rowing_same : (row aim shut sound moved : ℕ) (v w : View) → w.sweep ≡ v.sweep → w.growing ≡ v.growing → Rowing row aim shut sound moved v → Rowing row aim shut sound moved w
rowing_same row aim shut sound moved v w e g r = record {
  idle = idle_on v w e r.idle;
  row_is = ap (λ (t : Growing). t.row) g ∙ r.row_is;
  aim_is = ap (λ (t : Growing). t.aim) g ∙ r.aim_is;
  shut_is = ap (λ (t : Growing). t.shut) g ∙ r.shut_is;
  sound_is = ap (λ (t : Growing). t.sound) g ∙ r.sound_is;
  moved_is = ap (λ (t : Growing). t.moved) g ∙ r.moved_is;
  still = ap (λ (t : Growing). t.moving) g ∙ r.still;
}

pub rowing_aim : (row aim : ℕ) (v w : View) → Idle v → v.growing.shut ≡ 0 → v.growing.moved ≡ 0 → v.growing.moving ≡ 0 → v.growing.row ≡ row → w ≡ after v (Aim aim ∷ []) → Rowing row aim 0 0 0 w
rowing_aim row aim v w i unshut unmoved still row_ is = record {
  idle = idle_on v w (ap (λ (y : View). y.sweep) is) i;
  row_is = ap (λ (y : View). y.growing.row) is ∙ row_;
  aim_is = ap (λ (y : View). y.growing.aim) is;
  shut_is = ap (λ (y : View). y.growing.shut) is ∙ unshut;
  sound_is = ap (λ (y : View). y.growing.sound) is;
  moved_is = ap (λ (y : View). y.growing.moved) is ∙ unmoved;
  still = ap (λ (y : View). y.growing.moving) is ∙ still;
}

pub rowing_start : (row aim shut sound moved h x : ℕ) (v w : View) → w ≡ after v (Start h x ∷ []) → Rowing row aim shut sound moved v → Rowing row aim shut sound moved w
rowing_start row aim shut sound moved h x v w is r = rowing_same row aim shut sound moved v w (ap (λ (y : View). y.sweep) is) (ap (λ (y : View). y.growing) is) r

pub rowing_load : (row aim shut sound moved i x : ℕ) (v w : View) → w ≡ after v (Load i x ∷ []) → Rowing row aim shut sound moved v → Rowing row aim shut sound moved w
rowing_load row aim shut sound moved i x v w is r = rowing_same row aim shut sound moved v w (ap (λ (y : View). y.sweep) is) (ap (λ (y : View). y.growing) is) r

pub rowing_close : (row aim shut sound moved h : ℕ) (v w : View) → w ≡ after v (Close h ∷ []) → Rowing row aim shut sound moved v → Rowing row aim (shut + 1) sound moved w
rowing_close row aim shut sound moved h v w is r = record {
  idle = idle_on v w (ap (λ (y : View). y.sweep) is) r.idle;
  row_is = ap (λ (y : View). y.growing.row) is ∙ r.row_is;
  aim_is = ap (λ (y : View). y.growing.aim) is ∙ r.aim_is;
  shut_is = ap (λ (y : View). y.growing.shut) is ∙ ap (λ (n : ℕ). n + 1) r.shut_is;
  sound_is = ap (λ (y : View). y.growing.sound) is ∙ r.sound_is;
  moved_is = ap (λ (y : View). y.growing.moved) is ∙ r.moved_is;
  still = ap (λ (y : View). y.growing.moving) is ∙ r.still;
}

pub rowing_sound : (row aim shut sound moved x : ℕ) (v w : View) → w ≡ after v (Sound x ∷ []) → Rowing row aim shut sound moved v → Rowing row aim shut (sound + 1) moved w
rowing_sound row aim shut sound moved x v w is r = record {
  idle = idle_on v w (ap (λ (y : View). y.sweep) is) r.idle;
  row_is = ap (λ (y : View). y.growing.row) is ∙ r.row_is;
  aim_is = ap (λ (y : View). y.growing.aim) is ∙ r.aim_is;
  shut_is = ap (λ (y : View). y.growing.shut) is ∙ r.shut_is;
  sound_is = ap (λ (y : View). y.growing.sound) is ∙ ap (λ (n : ℕ). n + 1) r.sound_is;
  moved_is = ap (λ (y : View). y.growing.moved) is ∙ r.moved_is;
  still = ap (λ (y : View). y.growing.moving) is ∙ r.still;
}

pub rowing_empty : (row aim shut sound moved : ℕ) (v w : View) → w ≡ after v (Emptied ∷ []) → Rowing row aim shut sound moved v → Rowing row aim shut sound (moved + 1) w
rowing_empty row aim shut sound moved v w is r = record {
  idle = idle_on v w (ap (λ (y : View). y.sweep) is) r.idle;
  row_is = ap (λ (y : View). y.growing.row) is ∙ r.row_is;
  aim_is = ap (λ (y : View). y.growing.aim) is ∙ r.aim_is;
  shut_is = ap (λ (y : View). y.growing.shut) is ∙ r.shut_is;
  sound_is = ap (λ (y : View). y.growing.sound) is ∙ r.sound_is;
  moved_is = ap (λ (y : View). y.growing.moved) is ∙ ap (λ (n : ℕ). n + 1) r.moved_is;
  still = ap (λ (y : View). y.growing.moving) is ∙ r.still;
}

pub rowing_publish : (row aim shut sound moved : ℕ) (v w : View) → w ≡ after v (PublishRow aim ∷ []) → Rowing row aim shut sound moved v → Rowing aim aim (2 ^ aim) 0 0 w
rowing_publish row aim shut sound moved v w is r = record {
  idle = idle_on v w (ap (λ (y : View). y.sweep) is) r.idle;
  row_is = ap (λ (y : View). y.growing.row) is;
  aim_is = ap (λ (y : View). y.growing.aim) is ∙ r.aim_is;
  shut_is = ap (λ (y : View). y.growing.shut) is;
  sound_is = ap (λ (y : View). y.growing.sound) is;
  moved_is = ap (λ (y : View). y.growing.moved) is;
  still = ap (λ (y : View). y.growing.moving) is ∙ r.still;
}

pub rowing_open : (row aim shut sound moved h : ℕ) (v w : View) → w ≡ after v (Publish h ∷ []) → Rowing row aim shut sound moved v → Rowing row aim (shut - 1) 0 moved w
rowing_open row aim shut sound moved h v w is r = record {
  idle = idle_on v w (ap (λ (y : View). y.sweep) is) r.idle;
  row_is = ap (λ (y : View). y.growing.row) is ∙ r.row_is;
  aim_is = ap (λ (y : View). y.growing.aim) is ∙ r.aim_is;
  shut_is = ap (λ (y : View). y.growing.shut) is ∙ ap (λ (n : ℕ). n - 1) r.shut_is;
  sound_is = ap (λ (y : View). y.growing.sound) is;
  moved_is = ap (λ (y : View). y.growing.moved) is ∙ r.moved_is;
  still = ap (λ (y : View). y.growing.moving) is ∙ r.still;
}

-- all heads of the row in use are closed, and another row is to take its place
pub moves_of : (row aim sound moved : ℕ) (v : View) → aim ≢ row → Rowing row aim (2 ^ row) sound moved v → MovesChains v
moves_of row aim sound moved v other r = (r.idle, r.shut_is ∙ ap (λ (n : ℕ). 2 ^ n) (sym r.row_is), λ e. other (sym r.aim_is ∙ (e ∙ r.row_is)))

pub old_of : (row aim shut sound moved : ℕ) (v : View) → Rowing row aim shut sound moved v → old_head v.growing ≡ row_first row + moved
old_of row aim shut sound moved v r = λ i. row_first (r.row_is i) + r.moved_is i

pub more_of : (row aim shut sound moved : ℕ) (v : View) → moved < 2 ^ row → Rowing row aim shut sound moved v → v.growing.moved < 2 ^ v.growing.row
more_of row aim shut sound moved v more r = subst (λ (p : ℕ × ℕ). p.1 < 2 ^ p.0) (λ i. (sym r.row_is i, sym r.moved_is i)) more

-- it moves chains still, where the rows are the same
pub moves_same : (v w : View) → w.sweep ≡ v.sweep → w.growing ≡ v.growing → MovesChains v → MovesChains w
moves_same v w e g m = (idle_on v w e m.0, (λ i. (g i).shut) ∙ (m.1 ∙ (λ i. 2 ^ (sym g i).row)), λ same. m.2 ((λ i. (sym g i).aim) ∙ (same ∙ (λ i. (g i).row))))

-- WORN HEADS: a step that finds one, after other steps
pub worn_after : (h x : ℕ) (u v w : View) → RowSteps u v → FoundWorn h x v w → v.size ≡ u.size → FoundWorn h x u w
worn_after h x u v w a f size = let js : List Kind = f.1.0 in (
  f.0,
  (
    a.0 ++ js,
    kinds_join a.0 js a.2 f.1.1,
    ⊎_elim
        (λ (e : w ≡ after v (js ++ Start h x ∷ [])). inl (joined u v w a.0 js (Start h x) a.1 e))
        (λ (e : w ≡ after v (js ++ Load (head_at v.size h) x ∷ [])). inr (joined u v w a.0 js (Load (head_at u.size h) x) a.1 (e ∙ (λ i. after v (js ++ Load (head_at (size i) h) x ∷ [])))))
        f.1.2,
  ),
)
  where
    joined : (u v w : View) (ks js : List Kind) (k : Kind) → v ≡ after u ks → w ≡ after v (js ++ k ∷ []) → w ≡ after u ((ks ++ js) ++ k ∷ [])
    joined u v w ks js k a e = e ∙ (ap (λ (y : View). after y (js ++ k ∷ [])) a ∙ (after_append (after u ks) js (k ∷ []) ∙ (ap (λ (y : View). after y (k ∷ [])) (sym (after_append u ks js)) ∙ sym (after_append u (ks ++ js) (k ∷ [])))))

pub worn_steps : (h x : ℕ) (v w : View) → FoundWorn h x v w → RowSteps v w
worn_steps h x v w f = let js : List Kind = f.1.0 in ⊎_elim
    (λ (e : w ≡ after v (js ++ Start h x ∷ [])). (js ++ Start h x ∷ [], e, kinds_join js (Start h x ∷ []) f.1.1 (tt, tt)))
    (λ (e : w ≡ after v (js ++ Load (head_at v.size h) x ∷ [])). (js ++ Load (head_at v.size h) x ∷ [], e, kinds_join js (Load (head_at v.size h) x ∷ []) f.1.1 (tt, tt)))
    f.1.2

-- THE WALK
pub paces_start : (h x : ℕ) (v w : View) → w ≡ after v (Start h x ∷ []) → Paces h x 0 0 (first_of x) [] w
paces_start h x v w is = record {
  walk = starting h x;
  at = ap (λ (y : View). y.walk) is;
  head = refl;
  word = refl;
  count = refl;
  place = refl;
  part = refl;
  last_seen = inl (refl, refl);
  first = λ _. refl;
}

pub paces_read : (h x n before p : ℕ) (ws : List ℕ) (y : ℕ) (v w : View) → w ≡ after v (Read y ∷ []) → Paces h x n before p ws v → Paces h x n before p (ws ++ y ∷ []) w
paces_read h x n before p ws y v w is t = record {
  walk = reading y t.walk;
  at = ap (λ (z : View). z.walk) is ∙ ap (option_map (reading y)) t.at;
  head = t.head;
  word = t.word;
  count = t.count;
  place = t.place;
  part = ap (λ (l : List ℕ). l ++ y ∷ []) t.part;
  last_seen = t.last_seen;
  first = t.first;
}

pub paces_same : (h x n before p : ℕ) (ws : List ℕ) (v w : View) → w.walk ≡ v.walk → Paces h x n before p ws v → Paces h x n before p ws w
paces_same h x n before p ws v w e t = record { walk = t.walk; at = e ∙ t.at; head = t.head; word = t.word; count = t.count; place = t.place; part = t.part; last_seen = t.last_seen; first = t.first }

pub paces_next : (h x n before p y : ℕ) (ws : List ℕ) (v w : View) → p ≢ 0 → w ≡ after v (Next y ∷ []) → Paces h x n before p ws v → Paces h x (n + 1) p y [] w
paces_next h x n before p y ws v w some_ is t = let at = t.place in record {
  walk = going_on y t.walk;
  at = ap (λ (z : View). z.walk) is ∙ ap (option_map (going_on y)) t.at;
  head = t.head;
  word = t.word;
  count = length-append t.walk.seen (at_hand t.walk ∷ []) ∙ ap (λ (i : ℕ). i + 1) t.count;
  place = refl;
  part = refl;
  last_seen = inr (t.walk.seen, at_hand t.walk, refl, omega (arith, some_, at));
  first = λ none_. absurd (omega (arith, none_));
}

-- it has come to the end, and the text of the last slot was read
pub at_end : (h x n before k : ℕ) (row : List ℕ) (v w : View) → w ≡ after v (Next 0 ∷ []) → Paces h x n before (k + 1) row v → AtEnd h k before row w
at_end h x n before k row v w is t = let at = t.place in let slot : t.walk.place - 1 ≡ k = omega (arith, at) in let one : at_hand t.walk ≡ record { slot = k; text = row } = (λ i. record { slot = slot i; text = t.part i }) in (
  going_on 0 t.walk,
  ap (λ (z : View). z.walk) is ∙ ap (option_map (going_on 0)) t.at,
  t.head,
  refl,
  subst (λ (a : Held). Picks (going_on 0 t.walk) a before) one (picks_next t.walk before 0 t.last_seen first),
)
  where
    first : before ≡ 0 → first_of t.walk.word ≡ (at_hand t.walk).slot + 1
    first none_ = ⊎_elim
        (λ (e : (before ≡ 0) × (t.walk.seen ≡ [])). let p : k + 1 ≡ first_of x = t.first (sym t.count ∙ ap length e.1) in let at = t.place in let word = ap first_of t.word in omega (arith, p, at, word))
        (λ (e : (front : List Held) × (c : Held) × (t.walk.seen ≡ front ++ c ∷ []) × (before ≡ c.slot + 1)). absurd (omega (arith, none_, e.3)))
        t.last_seen

-- a walk that has not come to the end has passed fewer slots than there are
pub paces_in : (h x n before p m : ℕ) (ws : List ℕ) (v : View) → Paces h x n before p ws v → Inside v → v.size.slots ≡ m → (p ≤ m) × (p ≢ 0 → n < m)
paces_in h x n before p m ws v t inside size = let i = inside t.walk t.at in let at = t.place in let count = t.count in (omega (arith, i.0, at, size), λ ne. let few = i.1 (λ e. ne (sym at ∙ e)) in omega (arith, few, count, size))

-- READS leave the rest
pub reads_rows : (ws : List ℕ) → RowKinds (map (λ (x : ℕ). Read x) ws)
reads_rows [] = tt
reads_rows (x ∷ ws) = (tt, reads_rows ws)

pub nexts_rows : (xs : List ℕ) → RowKinds (nexts xs)
nexts_rows [] = tt
nexts_rows (x ∷ xs) = (tt, nexts_rows xs)

-- SLOTS THAT ARE MOVED: what is known of the rows after each step
pub picked_rows : (a : Held) (before : ℕ) (v w : View) → w ≡ after v (Pick a before ∷ []) → (w.growing ≡ record v.growing { picked = Some a; before = before }) × (w.sweep ≡ v.sweep)
picked_rows a before v w is = (ap (λ (y : View). y.growing) is, ap (λ (y : View). y.sweep) is)

pub put_rows : (k : Kind) (a : Held) (v w : View) → ((h : ℕ) × (k ≡ MoveHead h)) ⊎ ((q : ℕ) × (k ≡ MoveLink q)) → v.growing.picked ≡ Some a → w ≡ after v (k ∷ []) → (w.growing ≡ record v.growing { picked = None; moving = a.slot + 1 }) × (w.sweep ≡ v.sweep)
put_rows k a v w which picked is = ⊎_elim
    (λ (t : (h : ℕ) × (k ≡ MoveHead h)). let now : w ≡ after v (MoveHead t.0 ∷ []) = is ∙ ap (λ (q : Kind). after v (q ∷ [])) t.1 in (ap (λ (y : View). y.growing) now ∙ (λ i. record v.growing { picked = None; moving = picked_slot (picked i) }), ap (λ (y : View). y.sweep) now))
    (λ (t : (q : ℕ) × (k ≡ MoveLink q)). let now : w ≡ after v (MoveLink t.0 ∷ []) = is ∙ ap (λ (q : Kind). after v (q ∷ [])) t.1 in (ap (λ (y : View). y.growing) now ∙ (λ i. record v.growing { picked = None; moving = picked_slot (picked i) }), ap (λ (y : View). y.sweep) now))
    which

-- a slot was moved: the collector knows of the rows what it knew
pub rowing_moved : (row aim shut sound moved : ℕ) (v w : View) → w.sweep ≡ v.sweep → w.growing.row ≡ v.growing.row → w.growing.aim ≡ v.growing.aim → w.growing.shut ≡ v.growing.shut → w.growing.sound ≡ v.growing.sound → w.growing.moved ≡ v.growing.moved → w.growing.moving ≡ 0
    → Rowing row aim shut sound moved v → Rowing row aim shut sound moved w
rowing_moved row aim shut sound moved v w e row_ aim_ shut_ sound_ moved_ still r = record {
  idle = idle_on v w e r.idle;
  row_is = row_ ∙ r.row_is;
  aim_is = aim_ ∙ r.aim_is;
  shut_is = shut_ ∙ r.shut_is;
  sound_is = sound_ ∙ r.sound_is;
  moved_is = moved_ ∙ r.moved_is;
  still = still;
}

-- STEPS THAT END WITH THE BEGINNING OF A WALK
pub begun_at : (u v w : View) (ks : List Kind) (h x : ℕ) → v ≡ after u ks → w ≡ after v (Start h x ∷ []) → w ≡ after u (ks ++ Start h x ∷ [])
begun_at u v w ks h x e f = f ∙ (ap (λ (y : View). after y (Start h x ∷ [])) e ∙ sym (after_append u ks (Start h x ∷ [])))

pub begun_walk : (u w : View) (ks : List Kind) (h x : ℕ) → w ≡ after u (ks ++ Start h x ∷ []) → w.walk ≡ Some (starting h x)
begun_walk u w ks h x e = ap (λ (y : View). y.walk) (e ∙ after_append u ks (Start h x ∷ []))

pub begun_rows : (u w : View) (ks : List Kind) (h x : ℕ) → RowKinds ks → w ≡ after u (ks ++ Start h x ∷ []) → RowSteps u w
begun_rows u w ks h x t e = (ks ++ Start h x ∷ [], e, kinds_join ks (Start h x ∷ []) t (tt, tt))

-- the words of a text are read one after the other
pub paces_reads : (h x n before p : ℕ) (ws us : List ℕ) (v w : View) → w ≡ after v (reads us) → Paces h x n before p ws v → Paces h x n before p (ws ++ us) w
paces_reads h x n before p ws [] v w is t = subst (λ (l : List ℕ). Paces h x n before p l w) (sym (append-nil ws)) (subst (Paces h x n before p ws) (sym is) t)
paces_reads h x n before p ws (y ∷ us) v w is t = subst (λ (l : List ℕ). Paces h x n before p l w) (append_assoc ws (y ∷ []) us)
    (paces_reads h x n before p (ws ++ y ∷ []) us (view_after v (Read y)) w is (paces_read h x n before p ws y v (view_after v (Read y)) refl t))

-- a link word was loaded, and then perhaps the text: of the rows and the collector's part nothing changes
pub looked_rows : (i y : ℕ) (us : List ℕ) (v w : View) → w ≡ after v (Load i y ∷ reads us) → (w.growing ≡ v.growing) × (w.sweep ≡ v.sweep) × (w.size ≡ v.size) × (w.gone ≡ v.gone) × RowSteps v w
looked_rows i y us v w is = let u : View = view_after v (Load i y) in (
  ap (λ (z : View). z.growing) is ∙ reads_keep (λ (z : View). z.growing) (λ _ _. refl) u us,
  ap (λ (z : View). z.sweep) is ∙ reads_keep (λ (z : View). z.sweep) (λ _ _. refl) u us,
  ap (λ (z : View). z.size) is ∙ reads_keep (λ (z : View). z.size) (λ _ _. refl) u us,
  ap (λ (z : View). z.gone) is ∙ reads_keep (λ (z : View). z.gone) (λ _ _. refl) u us,
  (Load i y ∷ reads us, is, (tt, reads_rows us)),
)

pub looked_paces : (h x n before p i y : ℕ) (us : List ℕ) (v w : View) → w ≡ after v (Load i y ∷ reads us) → Paces h x n before p [] v → Paces h x n before p us w
looked_paces h x n before p i y us v w is t = paces_reads h x n before p [] us (view_after v (Load i y)) w is (paces_same h x n before p [] v (view_after v (Load i y)) refl t)

-- AT A SLOT its link word was loaded, and, where that is 0, its text: the walk stands there, with the words that were read
abbrev pub Looked : ℕ → ℕ → Option (List ℕ) → View → View → Type 0
Looked i y o v t = MatchOption o (t ≡ after v (Load i y ∷ [])) (λ (row : List ℕ). (length row ≡ 32) × (t ≡ after v (Load i y ∷ reads row)))

pub looked_by : (h x n before p i y : ℕ) (o : Option (List ℕ)) (v t : View) → Looked i y o v t → Paces h x n before p [] v
    → (t.growing ≡ v.growing) × (t.sweep ≡ v.sweep) × (t.size ≡ v.size) × (t.gone ≡ v.gone) × RowSteps v t × ((us : List ℕ) × Paces h x n before p us t)
looked_by h x n before p i y None v t is w = let r = looked_rows i y [] v t is in (r.0, r.1, r.2, r.3, r.4, ([], looked_paces h x n before p i y [] v t is w))
looked_by h x n before p i y (Some row) v t is w = let r = looked_rows i y row v t is.1 in (r.0, r.1, r.2, r.3, r.4, (row, looked_paces h x n before p i y row v t is.1 w))

-- and where its next link word is 0, it is the last one
pub ended_by : (h x n before p i y : ℕ) (o : Option (List ℕ)) (row : List ℕ) (v t w : View) → o ≡ Some row → Looked i y o v t → p ≢ 0 → w ≡ after t (Next 0 ∷ []) → Paces h x n before p [] v → AtEnd h (p - 1) before row w × (length row ≡ 32)
ended_by h x n before p i y None row v t w e is some_ now k = cc
ended_by h x n before p i y (Some r) row v t w e is some_ now k = let same : r ≡ row = some_same r row (Some r) refl e in let one : p ≡ p - 1 + 1 = omega (arith, some_) in
    let at : Paces h x n before (p - 1 + 1) row t = subst (λ (q : ℕ × List ℕ). Paces h x n before q.0 q.1 t) (λ j. (one j, same j)) (looked_paces h x n before p i y r v t is.1 k) in
    (at_end h x n before (p - 1) row t w now at, ap length (sym same) ∙ is.0)

-- the seat keeps at run time the head and the word with which that walk began
pub tied_paces : (h x n m before prior p q : ℕ) (ws us : List ℕ) (v w : View) (a b : ℕ) → Paces h x n before p ws v → Paces h x m prior q us w → w.size ≡ v.size → WalkTied v a b → WalkTied w a b
tied_paces h x n m before prior p q ws us v w a b s t size tie = let head : h ≡ a = sym s.head ∙ (ap (walk_head a) (sym s.at) ∙ tie.0) in let word : x ≡ b = sym s.word ∙ (ap (walk_word b) (sym s.at) ∙ tie.1) in
    (ap (walk_head a) t.at ∙ (t.head ∙ head), ap (walk_word b) t.at ∙ (t.word ∙ word), subst (λ (z : Size). a < z.heads) (sym size) tie.2)
