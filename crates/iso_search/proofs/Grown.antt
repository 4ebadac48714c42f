-- A search whose store has gained compound terms.
use Rattle.std.proofs.Common.{◌≡◌, ℕ, zero, suc, ◌<◌, ◌≤◌, ◌⊎◌, inl, inr, true, false, List, [], ◌∷◌, ◌++◌, length, get_or, map, reverse, nat_le, refl, sym, ap, ap₂, subst, ◌∙◌, arith, length-append, Result}
use Rattle.std.specs.List.{All}
use Rattle.std.proofs.Math.Seq.{get_or-append_seam}
use Rattle.std.proofs.lemmas.List.{get_or_append_left, get_or_past}
use Rattle.std.proofs.lemmas.List.Elements.{All-nil, All-cons, All-head, All-tail, All-weaker}
use Rattle.std.proofs.lemmas.Bool.Decides.{leb_tells}
use Rattle.pl_term.specs.Tree.{Tree}
use Rattle.pl_model.specs.History.{Proc}
use Rattle.pl_model.specs.Resolution.{Pending, goal, collect, Node, State, clauses, catch, findall, throwing}
use Rattle.pl_model.specs.Balls.{error_ball}
use Rattle.pl_model.specs.Control.{checked}
use Rattle.term_store.specs.declared.words.Place.{Place}
use Rattle.term_store.specs.Contents.{Contents, Holds, IsAbove}
use Rattle.iso_search.specs.declared.calls.Checked.TheVariants.{Refused}
use Rattle.iso_search.specs.declared.choices.Alternative.{Alternative}
use Rattle.iso_search.specs.declared.choices.Alternative.TheVariants.{Clauses, Answers, Told, Branch, Barrier, Catch, Findall}
use Rattle.iso_search.specs.declared.frames.Task.{Task}
use Rattle.iso_search.specs.declared.frames.Task.TheVariants.{Goal, Commit, Refute, Leave, Collect}
use Rattle.iso_search.specs.declared.frames.Frame.{Frame}
use Rattle.iso_search.specs.declared.outcome.Fault.{Fault}
use Rattle.iso_search.specs.declared.outcome.Outcome.TheVariants.{Raise}
use Rattle.iso_search.specs.declared.search.Search.{Search}
use Rattle.iso_search.specs.Calling.{goal_or_error}
use Rattle.iso_search.specs.Choices.{answers_from, choice_at, listed_goal, purpose_of, IsAlternativeIn, IsTaskIn}
use Rattle.iso_search.specs.declared.copies.Copied.{Copied}
use Rattle.iso_search.specs.Collecting.{copies_of}
use Rattle.iso_search.specs.Conversions.{Grows, Stays}
use Rattle.iso_search.specs.Frames.{stacked, tasks}
use Rattle.iso_search.specs.Outcomes.{Setting, fault_term, result_in, state_in}
use Rattle.iso_search.specs.Reading.{View, reads, pending}
use Rattle.iso_search.specs.Searching.{IsWhole, node_of, choices_of}
use Rattle.iso_search.specs.Spelling.{spelled, text_of}
use Rattle.iso_search.specs.Told.{told_from}
use Rattle.iso_search.proofs.Instances.{choices_kept}
use Rattle.iso_search.proofs.Listing.{map-agree}
use Rattle.iso_search.proofs.Over.{state_by}
use Rattle.iso_search.proofs.Wholes.{whole_added}

-- The tasks of each list are among those of the frames

module _ (P : Task → Type 0) where
  pushed_inside : (done : List (List Task)) (ts : List Task) → All P ts → ((i : ℕ) → All P (get_or done i []))
      → (i : ℕ) → All P (get_or (done ++ ts ∷ []) i [])
  pushed_inside done ts h d i = go (leb_tells (suc i) (length done)) (leb_tells (suc (length done)) i)
    where
      go : ((nat_le (suc i) (length done) ≡ true) × (suc i ≤ length done)) ⊎ ((nat_le (suc i) (length done) ≡ false) × (length done < suc i))
          → ((nat_le (suc (length done)) i ≡ true) × (suc (length done) ≤ i)) ⊎ ((nat_le (suc (length done)) i ≡ false) × (i < suc (length done)))
          → All P (get_or (done ++ ts ∷ []) i [])
      go (inl below) past = subst (All P) (sym (get_or_append_left done (ts ∷ []) [] i (omega (arith, below.1)))) (d i)
      go (inr above) (inl past) =
          subst (All P) (sym (get_or_past (done ++ ts ∷ []) i [] (omega (arith, past.1, length-append done (ts ∷ []))))) (All-nil P)
      go (inr above) (inr not_past) =
          let at : length done ≡ i = omega (arith, above.1, not_past.1) in
          subst (λ k. All P (get_or (done ++ ts ∷ []) k [])) at (subst (All P) (sym (get_or-append_seam done ts [] [])) h)

  stacked_inside : (fs : List Frame) (done : List (List Task)) → All (λ (f : Frame). P f.task) fs → ((i : ℕ) → All P (get_or done i []))
      → (i : ℕ) → All P (get_or (stacked fs done) i [])
  stacked_inside [] done h d = d
  stacked_inside (f ∷ fs) done h d =
      stacked_inside fs (done ++ (f.task ∷ get_or done f.continuation []) ∷ []) (All-tail (λ (g : Frame). P g.task) f fs h)
      (pushed_inside done (f.task ∷ get_or done f.continuation []) (All-cons P f.task (get_or done f.continuation []) (All-head (λ (g : Frame). P g.task) f fs h) (d f.continuation)) d)

  nothing_inside : (i : ℕ) → All P (get_or ([] ∷ []) i [])
  nothing_inside zero = All-nil P
  nothing_inside (suc i) = All-nil P

  pub tasks_inside : (fs : List Frame) (i : ℕ) → All (λ (f : Frame). P f.task) fs → All P (tasks fs i)
  unfolding tasks
  tasks_inside fs i h = stacked_inside fs ([] ∷ []) h nothing_inside i

-- What stood in the store is read as before

pub read_kept : (v : View) (s t : Contents) → Stays s t → (p : Place) → Holds s p → reads v t p ≡ reads v s p
read_kept v s t g p held = ap (spelled (text_of v.names)) (g.others p held)

pending_kept : (v : View) (s t : Contents) → Stays s t → (k : Task) → IsTaskIn s k → pending (reads v t) k ≡ pending (reads v s) k
pending_kept v s t g (Goal w h) i = ap (λ x. goal x h) (read_kept v s t g w i)
pending_kept v s t g (Commit h) i = refl
pending_kept v s t g (Refute h) i = refl
pending_kept v s t g (Leave h) i = refl
pending_kept v s t g (Collect w h) i = ap (λ x. collect x h) (read_kept v s t g w i)

node_same : (p q : List Pending) (a b : List Tree) (u w : ℕ) → p ≡ q → a ≡ b → u ≡ w
    → (let l : Node = record { goals = p; answer = a; used = u } in let r : Node = record { goals = q; answer = b; used = w } in l ≡ r)
node_same p q a b u w e f g = cc

module _ (e : Search) (s : Contents) (g : Stays e.store s) (w : IsWhole e) where
  pub whole_stays : IsAbove e.next_variable s → IsWhole (record e { store = s })
  whole_stays above = whole_added e s e.next_variable g.adds g.budget (omega arith) above w

  pub choices_grown : (v : View) → choices_of v (record e { store = s }) ≡ choices_of v e
  choices_grown v = choices_kept v e.answer.items e.store s e.frames.items (reverse e.choices.items) g.adds w.rests

  pub node_grown : (v : View) (list : ℕ) → node_of v (record e { store = s }) list ≡ node_of v e list
  node_grown v list =
      node_same (map (pending (reads v s)) (tasks e.frames.items list)) (map (pending (reads v e.store)) (tasks e.frames.items list))
      (map (reads v s) e.answer.items) (map (reads v e.store) e.answer.items) s.used e.store.used
      (map-agree (IsTaskIn e.store) (pending (reads v s)) (pending (reads v e.store)) (pending_kept v e.store s g) (tasks e.frames.items list)
      (tasks_inside (IsTaskIn e.store) e.frames.items list w.base.words))
      (map-agree (Holds e.store) (reads v s) (reads v e.store) (read_kept v e.store s g) e.answer.items w.base.answer)
      g.used

  pub state_grown : (t : Setting) → state_in t (record e { store = s }) ≡ state_in t e
  state_grown t =
      state_by t.doing t.doing (choices_of t.view (record e { store = s })) (choices_of t.view e) e.next_variable e.next_variable e.inferences e.inferences t.output
      refl (choices_grown t.view) refl refl

pub alternative_grown : (s t : Contents) → Grows s t → (a : Alternative) → IsAlternativeIn s a → IsAlternativeIn t a
alternative_grown s t g (Clauses p w k j) i = g.stays.adds.places w i
alternative_grown s t g (Told w ls line) i = g.stays.adds.places w i
alternative_grown s t g (Answers w line) i = g.stays.adds.places w i
alternative_grown s t g Branch i = tt
alternative_grown s t g Barrier i = tt
alternative_grown s t g (Catch c w) i = (g.stays.adds.places c i.0, g.stays.adds.places w i.1)
alternative_grown s t g (Findall w f) i = (
  g.stays.adds.places w i.0,
  record {
    counted = i.1.counted;
    above =
        All-weaker (λ (c : Copied). IsAbove c.from s) (λ (c : Copied). IsAbove c.from t) (λ c h. subst (All (λ m. m < c.from)) (sym g.numbers) h)
        f.copies.items i.1.above;
  },
)

pub choice_grown : (v : View) (s t : Contents) → Stays s t → (n : Node) (a : Alternative) → IsAlternativeIn s a
    → choice_at v (reads v t) n a ≡ choice_at v (reads v s) n a
choice_grown v s t g n (Clauses p w k j) i =
    ap (λ x. clauses (purpose_of p) x (v.left (listed_goal (purpose_of p) x) k j) n) (read_kept v s t g w i)
choice_grown v s t g n (Told w ls line) i = ap (λ x. told_from v.names x ls.items line n) (read_kept v s t g w i)
choice_grown v s t g n (Answers w line) i = ap (λ x. answers_from x line n) (read_kept v s t g w i)
choice_grown v s t g n Branch i = refl
choice_grown v s t g n Barrier i = refl
choice_grown v s t g n (Catch c w) i = ap₂ (λ x y. catch x y n) (read_kept v s t g c i.0) (read_kept v s t g w i.1)
choice_grown v s t g n (Findall w f) i = ap (λ x. findall x (copies_of v f) n) (read_kept v s t g w i.0)

pub whole_grown : (e : Search) (s : Contents) → Grows e.store s → IsWhole e → IsWhole (record e { store = s })
whole_grown e s g w = whole_stays e s g.stays w (subst (All (λ m. m < e.next_variable)) (sym g.numbers) w.above)

-- A refusal

pub refused_by_check : (t : Setting) (e d : Search) (n : Node) (p : Proc) (r : Result Tree Tree) (next : Tree → State) (f : Fault)
    → goal_or_error (reads t.view d.store) (Refused f) ≡ r → state_in t d ≡ state_in t e
    → result_in t d n p (Raise f) ≡ checked (state_in t e) n p r next
refused_by_check t e d n p r next f is same =
    ap (λ (s : State). record s { doing = throwing (error_ball (fault_term (reads t.view d.store) f) p) n.goals }) same
    ∙ ap (λ q. checked (state_in t e) n p q next) is
