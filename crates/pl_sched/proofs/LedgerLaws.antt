-- Which engines the history begins.
use Rattle.std.proofs.Common.{◌≡◌, ◌≢◌, ◌⊎◌, inl, inr, ◌<◌, ◌+◌, ℕ, zero, suc, List, [], ◌∷◌, ◌++◌, length, get_or, take, Bool, true, false, ◌&&◌, not, Option, Result, Ok, Err, refl, sym, ap, subst, ◌∙◌, arith, append-nil, append_assoc}
use Rattle.std.proofs.lemmas.Bool.{cases_eq, cases_lt}
use Rattle.std.proofs.lemmas.List.{map-append, take_more}
use Rattle.std.proofs.lemmas.List.Elements.{All-cons, All-nil, Contains-append_cases, Contains-append_left, Contains-append_right}
use Rattle.pl_term.proofs.TextOrder.{nat_cmp-greater, nat_cmp-less}
use Rattle.std.specs.BTreeSet as set
use Rattle.std.specs.BTreeSet.{BTreeSet}
use Rattle.std.specs.Ordering.{is_eq, nat_cmp}
use Rattle.std.specs.Prelude.{IfOk, OnErr, OnOk, map}
use Rattle.std.specs.List.{All, Contains}
use Rattle.pl_model.specs.History.{Entry, History, Kind, abolish, add_first, add_last, drop_queue, erase, finish, join, make_queue, send, set_dynamic, set_flag, set_op, start}
use Rattle.pl_model.specs.History as entries
use Rattle.run_model.specs.Lawful.{Beginning, beginnings, beginnings_from, engine_numbers}
use Rattle.pl_history.specs.Fronts.{FrontState, Life, begun_by, own_engine}
use Rattle.pl_hub.specs.Called.{called_in}
use Rattle.pl_hub.specs.Ending.{IsEnded}
use Rattle.pl_hub.specs.Fronts.{Grows, begun_in, idle}
use Rattle.pl_hub.specs.Order.{IsInOrder}
use Rattle.pl_hub.specs.Settling.{entry}
use Rattle.pl_term.specs.Tree.{Chars, Tree}
use Rattle.pl_model.specs.declared.ends.How.{How}
use Rattle.pl_sched.specs.Ledger.{AreBegun, AreOnly, AreWhole, carried_by, named_in}

-- LATER ENTRIES begin theirs after those before
pub begun_append : (h k : History) → begun_in (h ++ k) ≡ begun_in h ++ begun_in k
begun_append [] k = refl
begun_append (x ∷ xs) k = ap (λ (ls : List Life). begun_by x.kind ++ ls) (begun_append xs k) ∙ sym (append_assoc (begun_by x.kind) (begun_in xs) (begun_in k))

-- THE LIST STAYS as the history gains entries, whose engines the hub's front carries
pub begun_grows : (started : List ℕ) (e : ℕ) (old new : FrontState) → AreBegun started old → Grows e old new → AreBegun started new
begun_grows started e old new are grows =
    ap begun_in grows.grown
    ∙ (begun_append old.seen grows.later
    ∙ (ap (λ (ls : List Life). ls ++ begun_in grows.later) are
    ∙ (append_assoc (map idle started) old.lives (begun_in grows.later)
    ∙ ap (λ (ls : List Life). map idle started ++ ls) (sym grows.carried))))

-- and an end begins none
pub begun_ended : (goals e : ℕ) (how : How Tree) (n : ℕ) (f g hub new : FrontState) (started : List ℕ) → IsEnded goals e (finish how n) f g hub new → AreBegun started hub → AreBegun started new
begun_ended goals e how n f g hub new started ended are =
    begun_grows started e hub new are
    (record {
      later = entry e (finish how n) ∷ [];
      grown = ended.history ∙ ap (λ t. t.history) ended.told;
      carried = ended.carried ∙ sym (append-nil hub.lives);
      own = All-cons (λ (x : Entry). x.engine ≡ e) (entry e (finish how n)) [] refl (All-nil (λ (x : Entry). x.engine ≡ e));
    })

-- it stays where nothing changed
pub begun_kept : (started same : List ℕ) (hub new : FrontState) → same ≡ started → new ≡ hub → AreBegun started hub → AreBegun same new
begun_kept started same hub new list is are = subst (λ (ns : List ℕ). AreBegun ns new) (sym list) (subst (λ (f : FrontState). AreBegun started f) (sym is) are)

-- AN ENGINE THAT IS LENT is listed, and the hub's front carries it no more
map_last : (xs : List ℕ) (n : ℕ) (ls : List Life) → map idle (xs ++ n ∷ []) ++ ls ≡ map idle xs ++ idle n ∷ ls
map_last [] n ls = refl
map_last (x ∷ xs) n ls = ap (λ (r : List Life). idle x ∷ r) (map_last xs n ls)

pub begun_lent : (started : List ℕ) (n : ℕ) (hub new : FrontState) → AreBegun started hub → hub.lives ≡ idle n ∷ new.lives → new.seen ≡ hub.seen → AreBegun (started ++ n ∷ []) new
begun_lent started n hub new are was seen =
    ap begun_in seen ∙ (are ∙ (ap (λ (ls : List Life). map idle started ++ ls) was ∙ sym (map_last started n new.lives)))

-- THE BEGINNINGS of the history are the engines that its entries begin
by_kind : (place e : ℕ) (k : Kind) (xs : History) → map (λ (b : Beginning). b.engine) (beginnings_from (suc place) xs) ≡ map (λ (l : Life). l.engine) (begun_in xs)
    → map (λ (b : Beginning). b.engine) (beginnings_from place (record { engine = e; kind = k } ∷ xs)) ≡ map (λ (l : Life). l.engine) (begun_in (record { engine = e; kind = k } ∷ xs))
by_kind place e (start b u a) xs same = ap (λ (ns : List ℕ). b ∷ ns) same
by_kind place e (add_first p c o) xs same = same
by_kind place e (add_last p c o) xs same = same
by_kind place e (erase j) xs same = same
by_kind place e (abolish p) xs same = same
by_kind place e (set_dynamic ps) xs same = same
by_kind place e (set_flag f v) xs same = same
by_kind place e (set_op os) xs same = same
by_kind place e (make_queue i a) xs same = same
by_kind place e (drop_queue i) xs same = same
by_kind place e (send i u) xs same = same
by_kind place e (entries.take j) xs same = same
by_kind place e (finish how steps) xs same = same
by_kind place e (join i) xs same = same

same_from : (place : ℕ) (h : History) → map (λ (b : Beginning). b.engine) (beginnings_from place h) ≡ map (λ (l : Life). l.engine) (begun_in h)
same_from place [] = refl
same_from place (x ∷ xs) = by_kind place x.engine x.kind xs (same_from (suc place) xs)

-- and each has the alias with which its entry begins it
named_by : (place e : ℕ) (k : Kind) (xs : History) → called_in xs ≡ map (λ (b : Beginning). (b.engine, b.alias)) (beginnings_from (suc place) xs)
    → called_in (record { engine = e; kind = k } ∷ xs) ≡ map (λ (b : Beginning). (b.engine, b.alias)) (beginnings_from place (record { engine = e; kind = k } ∷ xs))
named_by place e (start b u a) xs same = ap (λ (ns : List (ℕ × Option Chars)). (b, a) ∷ ns) same
named_by place e (add_first p c o) xs same = same
named_by place e (add_last p c o) xs same = same
named_by place e (erase j) xs same = same
named_by place e (abolish p) xs same = same
named_by place e (set_dynamic ps) xs same = same
named_by place e (set_flag f v) xs same = same
named_by place e (set_op os) xs same = same
named_by place e (make_queue i a) xs same = same
named_by place e (drop_queue i) xs same = same
named_by place e (send i u) xs same = same
named_by place e (entries.take j) xs same = same
named_by place e (finish how steps) xs same = same
named_by place e (join i) xs same = same

named_from : (place : ℕ) (h : History) → called_in h ≡ map (λ (b : Beginning). (b.engine, b.alias)) (beginnings_from place h)
named_from place [] = refl
named_from place (x ∷ xs) = named_by place x.engine x.kind xs (named_from (suc place) xs)

pub all_named : (h : History) → called_in h ≡ named_in h
all_named h = named_from zero h

map_idle : (xs : List ℕ) → map (λ (l : Life). l.engine) (map idle xs) ≡ xs
map_idle [] = refl
map_idle (x ∷ xs) = ap (λ (r : List ℕ). x ∷ r) (map_idle xs)

-- WHERE THE HUB'S FRONT CARRIES NONE the list has all that began
pub all_begun : (started : List ℕ) (hub : FrontState) → AreBegun started hub → hub.lives ≡ [] → engine_numbers (beginnings hub.seen) ≡ 1 ∷ started
all_begun started hub are none =
    ap (λ (ns : List ℕ). 1 ∷ ns)
    (same_from zero hub.seen
    ∙ (ap (λ (ls : List Life). map (λ (l : Life). l.engine) ls) (are ∙ (ap (λ (ls : List Life). map idle started ++ ls) none ∙ append-nil (map idle started)))
    ∙ map_idle started))

-- WHAT FRONTS ARE CARRIED, one more at the end
pub one_more : (fs : List FrontState) (f : FrontState) (n : ℕ) → n ≡ own_engine f.lives → (k : ℕ) → Contains (carried_by fs) k ⊎ (k ≡ n) → Contains (carried_by (fs ++ f ∷ [])) k
one_more fs f n is k (inl there) = subst (λ (xs : List ℕ). Contains xs k) (sym (map-append (λ (g : FrontState). own_engine g.lives) fs (f ∷ []))) (Contains-append_left (carried_by fs) (own_engine f.lives ∷ []) k there)
one_more fs f n is k (inr this) =
    subst (λ (xs : List ℕ). Contains xs k) (sym (map-append (λ (g : FrontState). own_engine g.lives) fs (f ∷ [])))
    (Contains-append_right (carried_by fs) (own_engine f.lives ∷ []) k (zero, omega arith, sym (this ∙ is)))

-- THE SET has what it had, and the number
differs : (a k : ℕ) → a ≢ k → is_eq (nat_cmp a k) ≡ false
differs a k ne = elim (cases_lt a k) [
  | inl lt ↦ ap is_eq (nat_cmp-less a k lt)
  | inr ge ↦ ap is_eq (nat_cmp-greater a k (omega arith))
]

inserted : (old new : BTreeSet ℕ) (a : ℕ) → set.Updates nat_cmp old new a true → (k : ℕ) → set.contains nat_cmp new k ≡ true → (set.contains nat_cmp old k ≡ true) ⊎ (k ≡ a)
inserted old new a updates k is = elim (cases_eq k a) [
  | inl e ↦ inr e
  | inr ne ↦ inl (sym (updates.2 k (differs a k (λ e. ne (sym e)))) ∙ is)
]

-- so each number of it is carried by one of the fronts so far
abbrev pub AreNumbers : BTreeSet ℕ → List FrontState → Type 0
AreNumbers s fs = (k : ℕ) → set.contains nat_cmp s k ≡ true → Contains (carried_by fs) k

pub numbers_next : (old new : BTreeSet ℕ) (n : ℕ) (fs : List FrontState) (i : ℕ) (d : FrontState) → i < length fs → n ≡ own_engine (get_or fs i d).lives → set.Updates nat_cmp old new n true
    → AreNumbers old (take i fs)
    → AreNumbers new (take (i + 1) fs)
numbers_next old new n fs i d low is updates before k there =
    subst (λ (gs : List FrontState). Contains (carried_by gs) k) (sym (take_more fs i d low))
    (one_more (take i fs) (get_or fs i d) n is k (found (inserted old new n updates k there)))
  where
    found : (set.contains nat_cmp old k ≡ true) ⊎ (k ≡ n) → Contains (carried_by (take i fs)) k ⊎ (k ≡ n)
    found (inl old_one) = inl (before k old_one)
    found (inr this) = inr this

-- all of the list so far are in the set
abbrev pub AreIn : BTreeSet ℕ → List ℕ → Type 0
AreIn s ns = (k : ℕ) → Contains ns k → set.contains nat_cmp s k ≡ true

pub in_next : (s : BTreeSet ℕ) (ns : List ℕ) (i : ℕ) (d : ℕ) → i < length ns → set.contains nat_cmp s (get_or ns i d) ≡ true → AreIn s (take i ns) → AreIn s (take (i + 1) ns)
in_next s ns i d low this before k there =
    found (Contains-append_cases (take i ns) (get_or ns i d ∷ []) k (subst (λ (xs : List ℕ). Contains xs k) (take_more ns i d low) there))
  where
    last : Contains (get_or ns i d ∷ []) k → get_or ns i d ≡ k
    last (zero, lt, is) = is
    last (suc j, lt, is) = absurd (omega (arith, lt))

    found : Contains (take i ns) k ⊎ Contains (get_or ns i d ∷ []) k → set.contains nat_cmp s k ≡ true
    found (inl old) = before k old
    found (inr new) = subst (λ (x : ℕ). set.contains nat_cmp s x ≡ true) (last new) this

-- EACH OF THE LIST, and engine 1, is carried by one of the fronts
pub each_carried : (s : BTreeSet ℕ) (fs : List FrontState) (ns : List ℕ) → AreNumbers s fs → set.contains nat_cmp s 1 ≡ true → AreIn s ns → (k : ℕ) → Contains (1 ∷ ns) k → Contains (carried_by fs) k
each_carried s fs ns numbers one all k (zero, lt, is) = numbers k (subst (λ (x : ℕ). set.contains nat_cmp s x ≡ true) is one)
each_carried s fs ns numbers one all k (suc j, lt, is) = numbers k (all k (j, omega (arith, lt), is))

-- THE FRONTS ARE THOSE OF ALL ENGINES
pub are_whole : (started : List ℕ) (hub : FrontState) (h : History) (fs : List FrontState) → AreBegun started hub → hub.lives ≡ [] → hub.seen ≡ h → ((k : ℕ) → Contains (1 ∷ started) k → Contains (carried_by fs) k)
    → AreWhole h fs
are_whole started hub h fs are none seen all k there =
    all k (subst (λ (xs : List ℕ). Contains xs k) (all_begun started hub are none) (subst (λ (l : History). Contains (engine_numbers (beginnings l)) k) (sym seen) there))

-- an end, entered or not, begins no engine
pub begun_or : {A X : Type 0} (r : Result A X) (goals e : ℕ) (how : How Tree) (n : ℕ) (f g hub new : FrontState) (started : List ℕ)
    → OnOk r (IsEnded goals e (finish how n) f g hub new)
    → OnErr r ((g ≡ f) × (new ≡ hub))
    → AreBegun started hub
    → AreBegun started new
begun_or (Ok x) goals e how n f g hub new started ended same are = begun_ended goals e how n f g hub new started ended are
begun_or (Err x) goals e how n f g hub new started ended same are = subst (λ (z : FrontState). AreBegun started z) (sym same.1) are

-- WHAT A RUN GIVES BACK, as one history
pub given_back : {V X : Type 0} (goals : ℕ) (items : V → List FrontState) (begun : V → List (ℕ × Option Chars)) (r : Result V X) (h : History)
    → IfOk r (λ v. All (λ (f : FrontState). f.seen ≡ h) (items v)) → IfOk r (λ v. AreWhole h (items v)) → OnOk r (AreOnly h) → OnOk r (IsInOrder goals h) → IfOk r (λ v. begun v ≡ named_in h)
    → IfOk r (λ v. (g : History) × All (λ (f : FrontState). f.seen ≡ g) (items v) × AreWhole g (items v) × AreOnly g × IsInOrder goals g × (begun v ≡ named_in g))
given_back goals items begun (Ok v) h seen whole only order named = (h, seen, whole, only, order, named)
given_back goals items begun (Err e) h seen whole only order named = tt
