-- Parts of a block, made in a store.
use Rattle.std.proofs.Common.{◌≡◌, ◌≢◌, inl, inr, ℕ, zero, ◌+◌, ◌-◌, ◌<◌, ◌≤◌, List, [], ◌∷◌, length, get_or, map, pos, refl, sym, ap, ap₂, subst, ◌∙◌, arith, zero-add}
use Rattle.std.specs.List.{All}
use Rattle.std.proofs.lemmas.Bool.{cases_lt}
use Rattle.std.proofs.lemmas.List.Elements.{All-head, All-tail, All-nil, All-cons}
use Rattle.pl_term.specs.Tree.{var, compound}
use Rattle.pl_model.specs.Unify.{bound, instance}
use Rattle.term_store.specs.declared.words.Word.{Word}
use Rattle.term_store.specs.declared.words.Word.TheVariants.{Var, Int, Atom, Comp}
use Rattle.term_store.specs.declared.words.Head.{Head}
use Rattle.term_store.specs.declared.block.Block.{Block}
use Rattle.term_store.specs.Blocks.{IsBlock, IsPart, IsRange, block_heap, copied, no_range, part_of}
use Rattle.term_store.specs.Contents.{upwards}
use Rattle.term_store.specs.Entering.{AreCopied, IsReady, entered, value}
use Rattle.term_store.specs.Heap.{Heap, atom_name, words_of, bindings, meaning}
use Rattle.term_store.specs.Fit.{IsWord, IsIn, IsHead, no_head}
use Rattle.term_store.specs.Making.{Made}
use Rattle.term_store.specs.Nodes.{StandsFor}
use Rattle.term_store.proofs.Equations.{bound-int, bound-atom}
use Rattle.term_store.proofs.Instances.{instance-compound}
use Rattle.term_store.proofs.Knowing.{value_known}
use Rattle.term_store.proofs.Loading.{length-upwards, get_or-upwards}
use Rattle.term_store.proofs.Opening.{opened}
use Rattle.term_store.proofs.Ranging.{parts_wider}

none_bound : (b : Block) → bindings (block_heap b) ≡ []
unfolding bindings
none_bound b = refl

-- A variable of the block stands for itself.
pub part_variable : (b : Block) (x : ℕ) → x < b.variables → part_of b (Var x) ≡ var x
part_variable b x lt =
    ap (λ bs. bound bs (var (get_or (upwards zero b.variables) x zero))) (none_bound b) ∙ ap var (get_or-upwards zero b.variables x lt ∙ zero-add x)

pub part_inside : (b : Block) (x : ℕ) → IsIn (block_heap b) (Var x) → x < b.variables
part_inside b x inside = subst (λ n. x < n) (length-upwards zero b.variables) inside

module _ (b : Block) (block : IsBlock b) where
  -- What is known of a head of the block.
  pub head_fits : (k : ℕ) → k < length b.heads.items → IsHead b.variables b.args.items k (get_or b.heads.items k no_head)
  head_fits k lt = subst (λ m. IsHead m b.args.items k (get_or b.heads.items k no_head)) (length-upwards zero b.variables) (block.fit.heads k lt)

  pub range_fits : (k : ℕ) → k < length b.heads.items → IsRange b.variables b.heads.items b.args.items k (get_or b.ranges.items k no_range)
  range_fits k lt = block.ranges k lt

  module _ (c : Heap) (from : ℕ) (known : List Word) (words : All (IsIn c) known) where
    -- What a part becomes.
    pub part_known : (x : ℕ) → x < length known → IsIn (block_heap b) (Var x) → meaning c (get_or known x (Int (pos 0))) ≡ entered b c from known (Var x)
    part_known x lt inside = sym (ap (instance (value c from known)) (part_variable b x (part_inside b x inside)) ∙ value_known c from known x lt)

    pub part_int : (i : _) → (d : Heap) → meaning d (Int i) ≡ entered b c from known (Int i)
    part_int i d = bound-int (bindings d) i ∙ sym (ap (instance (value c from known)) (bound-int (bindings (block_heap b)) i))

    pub part_atom : (a : ℕ) (d : Heap) → meaning d (Atom a) ≡ entered b c from known (Atom a)
    part_atom a d = bound-atom (bindings d) (atom_name a) ∙ sym (ap (instance (value c from known)) (bound-atom (bindings (block_heap b)) (atom_name a)))

    pub part_constant : (w : Word) → ((x : ℕ) → w ≢ Var x) → ((k : ℕ) → w ≢ Comp k) → (d : Heap) → StandsFor d (entered b c from known w) w
    part_constant (Var x) no_variable no_compound d = absurd (no_variable x refl)
    part_constant (Int i) no_variable no_compound d = record { inside = tt; means = part_int i d }
    part_constant (Atom a) no_variable no_compound d = record { inside = tt; means = part_atom a d }
    part_constant (Comp k) no_variable no_compound d = absurd (no_compound k refl)

    module _ (low above : ℕ) where
      pub none_copied : (d : Heap) → AreCopied b c from known low above low d
      none_copied d j lo hi = absurd (omega arith)

      copied_means : (end : ℕ) (d : Heap) → ((w : Word) → IsIn c w → meaning d w ≡ meaning c w) → AreCopied b c from known low above end d → (w : Word) → IsWord b.variables end w
          → IsPart (record { low = low; variables = length known }) w → meaning d (copied known low above w) ≡ entered b c from known w
      copied_means end d keeps done (Var x) inside part =
          keeps (get_or known x (Int (pos 0))) (words x (Int (pos 0)) part)
          ∙ part_known x part (subst (λ n. x < n) (sym (length-upwards zero b.variables)) inside)
      copied_means end d keeps done (Int i) inside part = part_int i d
      copied_means end d keeps done (Atom a) inside part = part_atom a d
      copied_means end d keeps done (Comp j) inside part = done j part inside

      words_mean : (end : ℕ) (d : Heap) → ((w : Word) → IsIn c w → meaning d w ≡ meaning c w) → AreCopied b c from known low above end d → (ws : List Word) → All (IsWord b.variables end) ws
          → All (IsPart (record { low = low; variables = length known })) ws
          → map (meaning d) (map (copied known low above) ws) ≡ map (instance (value c from known)) (map (part_of b) ws)
      words_mean end d keeps done [] inside parts = refl
      words_mean end d keeps done (w ∷ ws) inside parts =
          ap₂ (λ t ts. t ∷ ts)
          (copied_means end d keeps done w (All-head (IsWord b.variables end) w ws inside) (All-head (IsPart (record { low = low; variables = length known })) w ws parts))
          (words_mean end d keeps done ws (All-tail (IsWord b.variables end) w ws inside) (All-tail (IsPart (record { low = low; variables = length known })) w ws parts))

      -- One compound term more.
      pub copied_more : (end : ℕ) (d e : Heap) (g : Head) → ((w : Word) → IsIn c w → meaning d w ≡ meaning c w) → end < length b.heads.items → low ≤ end
          → g ≡ get_or b.heads.items end no_head → length d.heads + low ≡ above + end → AreCopied b c from known low above end d
          → All (IsPart (record { low = low; variables = length known })) (words_of b.args.items g)
          → Made d g.name (map (copied known low above) (words_of b.args.items g)) e (Comp (length d.heads)) → AreCopied b c from known low above (end + 1) e
      copied_more end d e g keeps lt le at many done parts m j lo hi = elim (cases_lt j end) [
        | inl less ↦ m.keeps.means (Comp (above + (j - low))) (let inside : above + (j - low) < length d.heads = omega arith in inside) ∙ done j lo less
        | inr up ↦
            let same : end ≡ j = omega arith in
            subst (λ i. meaning e (Comp (above + (i - low))) ≡ entered b c from known (Comp i)) same newest
      ]
        where
          here : length d.heads ≡ above + (end - low)
          here = omega arith

          words_in : All (IsWord b.variables end) (words_of b.args.items g)
          words_in = subst (λ h. All (IsWord b.variables end) (words_of b.args.items h)) (sym at) (head_fits end lt).earlier

          newest : meaning e (Comp (above + (end - low))) ≡ entered b c from known (Comp end)
          newest =
              ap (λ i. meaning e (Comp i)) (sym here)
              ∙ m.means
              ∙ ap (compound (atom_name g.name)) (words_mean end d keeps done (words_of b.args.items g) words_in parts)
              ∙ sym (instance-compound (value c from known) (atom_name g.name) (map (part_of b) (words_of b.args.items g)))
              ∙ ap (instance (value c from known))
              (ap (λ h. compound (atom_name h.name) (map (part_of b) (words_of b.args.items h))) at ∙ sym (opened (block_heap b) end block.fit lt))

      copied_inside : (end : ℕ) (d : Heap) → ((w : Word) → IsIn c w → IsIn d w) → length d.heads + low ≡ above + end → (w : Word) → IsWord b.variables end w
          → IsPart (record { low = low; variables = length known }) w → IsIn d (copied known low above w)
      copied_inside end d keeps many (Var x) inside part = keeps (get_or known x (Int (pos 0))) (words x (Int (pos 0)) part)
      copied_inside end d keeps many (Int i) inside part = tt
      copied_inside end d keeps many (Atom a) inside part = tt
      copied_inside end d keeps many (Comp j) inside part = omega arith

      pub words_inside : (end : ℕ) (d : Heap) → ((w : Word) → IsIn c w → IsIn d w) → length d.heads + low ≡ above + end → (ws : List Word)
          → All (IsWord b.variables end) ws → All (IsPart (record { low = low; variables = length known })) ws → All (λ w. IsIn d (copied known low above w)) ws
      words_inside end d keeps many [] inside parts = All-nil (λ w. IsIn d (copied known low above w))
      words_inside end d keeps many (w ∷ ws) inside parts =
          All-cons (λ v. IsIn d (copied known low above v)) w ws
          (copied_inside end d keeps many w (All-head (IsWord b.variables end) w ws inside) (All-head (IsPart (record { low = low; variables = length known })) w ws parts))
          (words_inside end d keeps many ws (All-tail (IsWord b.variables end) w ws inside) (All-tail (IsPart (record { low = low; variables = length known })) w ws parts))

  -- All variables of a compound term's parts were met.
  module _ (known : List Word) (k : ℕ) (inside : k < length b.heads.items) (ready : (get_or b.ranges.items k no_range).variables ≤ length known) where
    pub parts_ready : (j : ℕ) → (get_or b.ranges.items k no_range).low ≤ j → j < k + 1
        → All (IsPart (record { low = (get_or b.ranges.items k no_range).low; variables = length known })) (words_of b.args.items (get_or b.heads.items j no_head))
    parts_ready j lo hi =
        let r = get_or b.ranges.items k no_range in
        parts_wider r (record { low = r.low; variables = length known }) (words_of b.args.items (get_or b.heads.items j no_head)) (omega arith) ready
        ((range_fits k inside).closed j lo (omega arith))

-- Where all variables of the block were met.
pub all_ready : (b : Block) → IsBlock b → (known : List Word) → b.variables ≤ length known → (p : Word) → IsIn (block_heap b) p → IsReady b known p
all_ready b block known enough (Var x) inside = let lt : x < b.variables = part_inside b x inside in omega arith
all_ready b block known enough (Int i) inside = tt
all_ready b block known enough (Atom a) inside = tt
all_ready b block known enough (Comp k) inside = let few = (range_fits b block k inside).few in omega arith
