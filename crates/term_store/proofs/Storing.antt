-- What the calls of a store tell their callers.
use Rattle.std.proofs.Common.{◌≡◌, ℕ, zero, ◌+◌, ◌<◌, ◌≤◌, List, [], ◌∷◌, ◌++◌, length, get_or, map, drop, None, Result, Ok, Err, IfOk, IfErr, OnOk, OnErr, refl, sym, ap, ap₂, subst, ◌∙◌, arith, length-append, length-take, length-drop}
use Rattle.std.specs.List.{All}
use Rattle.std.proofs.Math.ListN.{get_or-map}
use Rattle.std.proofs.Math.Seq.{get_or-append_seam}
use Rattle.std.proofs.lemmas.List.{get_or-take, get_or-drop, length-map}
use Rattle.std.proofs.lemmas.List.Elements.{All-append, All-weaker}
use Rattle.pl_term.specs.Tree.{Tree, var, atom, compound}
use Rattle.pl_term.specs.Nodes.{nodes, tree}
use Rattle.pl_term.specs.Variables.{rename, rename_by, variables}
use Rattle.pl_term.proofs.Spelled.{tree_spelled}
use Rattle.term_store.specs.declared.nodes.AtomNode.{AtomNode}
use Rattle.term_store.specs.declared.words.Word.{Word}
use Rattle.term_store.specs.declared.words.Word.TheVariants.{Var, Comp}
use Rattle.term_store.specs.declared.words.Head.{Head}
use Rattle.term_store.specs.declared.words.Place.{Place}
use Rattle.term_store.specs.declared.words.StoreMark.{StoreMark}
use Rattle.term_store.specs.declared.faults.StoreFault.{StoreFault}
use Rattle.term_store.specs.declared.faults.StoreFault.TheVariants.{CellsFull, Memory}
use Rattle.term_store.specs.declared.views.Arguments.{Arguments}
use Rattle.term_store.specs.Heap.{Heap, atom_name, words_of, meaning, find}
use Rattle.term_store.specs.Fit.{IsIn, IsHead, IsBond, Fit, no_head}
use Rattle.term_store.specs.Making.{with_number, Longer, Keeps, Made}
use Rattle.term_store.specs.Nodes.{StandsFor, node_views}
use Rattle.pl_term.specs.Cells.{cells}
use Rattle.term_store.specs.Contents.{Contents, Adds, Builds, Loaded, Refused, IsAbove, IsArguments, IsMark, Makes, arguments_at, back_to, term_at, upwards, words_at}
use Rattle.term_store.proofs.Following.{stands}
use Rattle.term_store.proofs.Growing.{find_absent}
use Rattle.term_store.proofs.Loading.{keeps_of, longer_numbers, upwards_below}
use Rattle.term_store.proofs.Marking.{adds_longer, cut-longer}
use Rattle.term_store.proofs.Occurring.{words_inside}
use Rattle.term_store.proofs.Opening.{opened}
use Rattle.term_store.proofs.Renumbering.{raised_numbered, same_default}

pub adds_of : (s s' t : Contents) → s' ≡ s → Longer s'.heap t.heap → t.used ≡ s'.used → t.budget ≡ s'.budget → Adds s t
adds_of s s' t e l u b = subst (λ v. Adds v t) e (adds_longer s' t l (omega (arith, u)) b)

pub above_of : (s s' t : Contents) (from k n : ℕ) → s' ≡ s → IsAbove from s → t.heap.numbers ≡ s'.heap.numbers ++ upwards from k → k ≡ n → IsAbove (from + n) t
above_of s s' t from k n e above numbers same =
    subst (λ j. IsAbove (from + j) t) same
    (subst (λ ns. All (λ m. m < from + k) ns) (sym numbers)
    (All-append (λ m. m < from + k) s'.heap.numbers (upwards from k)
    (All-weaker (λ m. m < from) (λ m. m < from + k) (λ m lt. omega arith) s'.heap.numbers (subst (λ v. IsAbove from v) (sym e) above)) (upwards_below from k)))

pub builds_of : (s s' t : Contents) (from k : ℕ) (term : Tree) (ns : List AtomNode) (p : Place) → s' ≡ s → t.used ≡ s'.used → t.budget ≡ s'.budget
    → node_views ns ≡ nodes term → rename zero term ≡ term → Keeps s'.heap t.heap → t.heap.numbers ≡ s'.heap.numbers ++ upwards from k
    → k ≡ length (variables term) → StandsFor t.heap (rename_by (λ x. from + x) (tree (node_views ns))) p.word → Builds s from term t p
builds_of s s' t from k term ns p e u b spelled numbered_term keeps numbers count f =
    subst (λ v. Builds v from term t p) e
    (record {
      holds = f.inside;
      means = f.means ∙ ap (rename_by (λ x. from + x)) (tree_spelled (node_views ns) term spelled) ∙ raised_numbered from term numbered_term;
      others = λ q inside. keeps.means q.word inside;
      numbers = numbers ∙ ap (λ j. s'.heap.numbers ++ upwards from j) count;
      used = u;
      budget = b;
    })

-- Going back to the mark of the whole store, when the heap has gained terms and variables alone.
pub undone_longer : (s s' mid t : Contents) (m : StoreMark) → s' ≡ s → Longer s'.heap mid.heap → mid.budget ≡ s'.budget → t ≡ back_to m mid → IsMark m s
    → back_to m s ≡ s → t ≡ s
undone_longer s s' mid t m e l b back mark here =
    let mark' : IsMark m s' = subst (IsMark m) (sym e) mark in
    back
    ∙ ap₂ (λ h c. record { heap = h; used = m.used; budget = c }) (cut-longer m s'.heap mid.heap l mark'.within) b
    ∙ ap (back_to m) e ∙ here

map-places : (h : Heap) (ps : List Place) → map (meaning h) (map (λ p. p.word) ps) ≡ map (λ p. meaning h p.word) ps
map-places h [] = refl
map-places h (p ∷ ps) = ap (λ ts. meaning h p.word ∷ ts) (map-places h ps)

pub makes_compound : (s s' t : Contents) (name : ℕ) (ps : List Place) (p : Place) → s' ≡ s → t.used ≡ s'.used → t.budget ≡ s'.budget
    → Made s'.heap name (map (λ q. q.word) ps) t.heap p.word → Makes s (compound (atom_name name) (map (term_at s) ps)) t p
makes_compound s s' t name ps p e u b m =
    subst (λ v. Makes v (compound (atom_name name) (map (term_at v) ps)) t p) e
    (record {
      holds = m.inside;
      means = m.means ∙ ap (compound (atom_name name)) (map-places s'.heap ps);
      others = λ q inside. m.keeps.means q.word inside;
      used = u;
      budget = b;
    })

-- A new variable is unbound.
pub makes_variable : (s s' t : Contents) (number : ℕ) (p : Place) → s' ≡ s → t.used ≡ s'.used → t.budget ≡ s'.budget → Fit s'.heap → Fit t.heap
    → t.heap ≡ with_number s'.heap number → p.word ≡ Var (length s'.heap.numbers) → Makes s (var number) t p
makes_variable s s' t number p e u b fit_before fit made is =
    subst (λ v. Makes v (var number) t p) e
    (record {
      holds = subst (IsIn t.heap) (sym is) inside;
      means =
          ap (meaning t.heap) is ∙ stands t.heap slot fit inside free
          ∙ ap var (ap (λ h. get_or h.numbers slot 0) made ∙ get_or-append_seam s'.heap.numbers number [] 0);
      others = λ q held. (keeps_of s'.heap t.heap fit_before longer).means q.word held;
      used = u;
      budget = b;
    })
  where
    slot : ℕ
    slot = length s'.heap.numbers

    inside : length s'.heap.numbers < length t.heap.numbers
    inside = omega (arith, ap (λ h. length h.numbers) made, length-append s'.heap.numbers (number ∷ []))

    free : find (length s'.heap.numbers) t.heap.trail ≡ None
    free =
        ap (λ h. find (length s'.heap.numbers) h.trail) made
        ∙ find_absent (length s'.heap.numbers) s'.heap.trail
        (All-weaker (IsBond (length s'.heap.numbers) (length s'.heap.heads)) (λ c. c.slot < length s'.heap.numbers) (λ c fits. fits.slot) s'.heap.trail fit_before.bonds)

    longer : Longer s'.heap t.heap
    longer = longer_numbers s'.heap t.heap (number ∷ []) made

-- What is seen of a compound term.
pub compound_seen : (s : Contents) (k : ℕ) (g : Head) → Fit s.heap → k < length s.heap.heads → g ≡ get_or s.heap.heads k no_head
    → (meaning s.heap (Comp k) ≡ compound (atom_name g.name) (arguments_at s (record { start = g.start; count = g.count })))
    × (IsArguments s (record { start = g.start; count = g.count }) × (0 < g.count))
compound_seen s k g fit lt e =
    let fits = subst (λ h. IsHead (length s.heap.numbers) s.heap.args k h) (sym e) (fit.heads k lt) in (
      opened s.heap k fit lt ∙ ap (λ h. compound (atom_name h.name) (map (meaning s.heap) (words_of s.heap.args h))) (sym e),
      (record { within = fits.within; inside = subst (λ h. All (IsIn s.heap) (words_of s.heap.args h)) (sym e) (words_inside s.heap k fit lt) }, fits.some),
    )

-- An argument by its place.
pub argument_seen : (s : Contents) (a : Arguments) (i : ℕ) (w d : Word) → IsArguments s a → i < a.count → w ≡ get_or s.heap.args (a.start + i) d
    → IsIn s.heap w × (meaning s.heap w ≡ get_or (arguments_at s a) i (atom []))
argument_seen s a i w d args lt e =
    let ws = words_at s a in
    let long : length ws ≡ a.count = omega (arith, length-take a.count (drop a.start s.heap.args), length-drop a.start s.heap.args, args.within) in
    let here : w ≡ get_or ws i d = e ∙ sym (get_or-take a.count (drop a.start s.heap.args) i d lt ∙ get_or-drop a.start s.heap.args i d) in (
      subst (IsIn s.heap) (sym here) (args.inside i d (omega arith)),
      ap (meaning s.heap) here ∙ sym (get_or-map (meaning s.heap) ws i d)
          ∙ same_default (map (meaning s.heap) ws) i (meaning s.heap d) (atom []) (omega (arith, long, length-map ws (meaning s.heap))),
    )

pub adds_none : (s t : Contents) → t ≡ s → Adds s t
adds_none s t e = subst (Adds s) (sym e) (record { places = λ p held. held; marks = λ m mark. mark; back = λ m mark. refl })

-- Counting cells first changes nothing that stands in the store.
pub charged_adds : (s s1 t : Contents) (n : ℕ) → s1 ≡ record s { used = s.used + n } → Adds s1 t → Adds s t
charged_adds s s1 t n e adds =
    let a = subst (λ v. Adds v t) e adds in
    record {
      places = a.places;
      marks = λ m mark. a.marks m (record { within = mark.within; used = omega (arith, mark.used); fit = mark.fit });
      back = λ m mark. a.back m (record { within = mark.within; used = omega (arith, mark.used); fit = mark.fit });
    }

pub charged_mark : (s s1 : Contents) (n : ℕ) (m : StoreMark) → s1 ≡ record s { used = s.used + n } → IsMark m s → IsMark m s1
charged_mark s s1 n m e mark =
    subst (IsMark m) (sym e) (record { within = mark.within; used = omega (arith, mark.used); fit = mark.fit })

pub charged_back : (s s1 s2 t : Contents) (n : ℕ) (m : StoreMark) → s1 ≡ record s { used = s.used + n } → s2 ≡ s1 → t ≡ back_to m s2 → back_to m s ≡ s → t ≡ s
charged_back s s1 s2 t n m e same back here = back ∙ ap (back_to m) (same ∙ e) ∙ here

pub loaded_of : (s s1 t : Contents) (from need : ℕ) (term : Tree) (p : Place) → s1 ≡ record s { used = s.used + need } → need ≡ cells term
    → s.used + need ≤ s.budget → Builds s1 from term t p → Loaded s from term t p
loaded_of s s1 t from need term p e same fits b =
    let c = subst (λ v. Builds v from term t p) e b in
    record {
      holds = c.holds;
      means = c.means;
      others = c.others;
      numbers = c.numbers;
      used = c.used ∙ ap (λ k. s.used + k) same;
      budget = c.budget;
      fits = subst (λ k. s.used + k ≤ s.budget) same fits;
    }

pub charged_above : (s s1 : Contents) (from n : ℕ) → s1 ≡ record s { used = s.used + n } → IsAbove from s → IsAbove from s1
charged_above s s1 from n e above = subst (λ v. IsAbove from v) (sym e) above

module _ {E : Type 0} (s s1 t : Contents) (from need : ℕ) (term : Tree) (charged : s1 ≡ record s { used = s.used + need }) (same : need ≡ cells term)
    (fits : s.used + need ≤ s.budget) where
  pub loaded_if : (r : Result Place E) → IfOk r (Builds s1 from term t) → IfOk r (Loaded s from term t)
  loaded_if (Ok p) b = loaded_of s s1 t from need term p charged same fits b
  loaded_if (Err x) b = tt

  pub adds_if : (r : Result Place E) (m : StoreMark) → OnOk r (Adds s1 t) → OnErr r (t ≡ back_to m s1) → back_to m s ≡ s → Adds s t
  adds_if (Ok p) m a e here = charged_adds s s1 t need charged a
  adds_if (Err x) m a e here = adds_none s t (charged_back s s1 s1 t need m charged refl e here)

  pub kept_if : (r : Result Place E) (m : StoreMark) → OnErr r (t ≡ back_to m s1) → back_to m s ≡ s → OnErr r (t ≡ s)
  kept_if (Ok p) m e here = tt
  kept_if (Err x) m e here = charged_back s s1 s1 t need m charged refl e here

pub refused_if : (s : Contents) (need n : ℕ) (r : Result Place StoreFault) → need ≡ n → s.used + need ≤ s.budget → IfErr r (λ e. e ≡ Memory) → IfErr r (Refused s n)
refused_if s need n (Ok p) same fits e = tt
refused_if s need n (Err x) same fits e = subst (Refused s n) (sym e) (subst (λ k. s.used + k ≤ s.budget) same fits)

pub refused_full : (s : Contents) (need n : ℕ) (x : StoreFault) → need ≡ n → x ≡ CellsFull s.used need → s.budget < s.used + need → Refused s n x
refused_full s need n x same e over =
    subst (Refused s n) (sym e) (refl, (same, subst (λ k. s.budget < s.used + k) same over))
