-- The head and the body in the block of a clause.
use Rattle.std.proofs.Common.{◌≡◌, ◌≢◌, ℕ, ◌+◌, ◌<◌, ◌≤◌, true, false, not, cond, ◌==◌, List, [], ◌∷◌, length, get_or, map, drop, pos, refl, sym, ap, ap₂, subst, ◌∙◌, arith}
use Rattle.std.specs.List.{All}
use Rattle.std.proofs.lemmas.Bool.Decides.{Decides-eqb}
use Rattle.std.proofs.lemmas.List.{get_or-take, get_or-drop, length-map}
use Rattle.std.proofs.lemmas.List.Elements.{All-head, All-tail}
use Rattle.atom_api.specs.FixedNames.{true_name}
use Rattle.pl_term.specs.Tree.{Chars, Tree, atom, comp, none, more, compound}
use Rattle.pl_model.proofs.UnifyReplace.{eqb_other, eqb_same}
use Rattle.term_store.specs.declared.words.Word.{Word}
use Rattle.term_store.specs.declared.words.Word.TheVariants.{Var, Int, Atom, Comp}
use Rattle.term_store.specs.declared.words.Head.{Head}
use Rattle.term_store.specs.declared.block.Block.{Block}
use Rattle.term_store.specs.ArgumentKeys.{head_in}
use Rattle.term_store.specs.Blocks.{IsBlock, block_heap, part_of}
use Rattle.term_store.specs.Entering.{IsParts, body_in, head_is_apart}
use Rattle.term_store.specs.Heap.{atom_name, bindings, words_of}
use Rattle.term_store.specs.Fit.{IsIn, IsWord, no_head}
use Rattle.term_store.specs.NumberedNames.{is_rule_term, neck, number_of}
use Rattle.term_store.proofs.Copying.{part_inside, part_variable}
use Rattle.term_store.proofs.Equations.{bound-int, bound-atom}
use Rattle.term_store.proofs.Occurring.{words_inside}
use Rattle.term_store.proofs.Opening.{opened}
use Rattle.term_store.proofs.Turning.{length-words}

record IsFact (t : Tree) : Type 0 where
  head : head_in t ≡ t
  body : body_in t ≡ atom (atom_name true_name)
  fact : is_rule_term t ≡ false

other_fact : (f : Chars) (ts : List Tree) → (number_of f == neck) ≡ false → IsFact (compound f ts)
other_fact f [] e = record { head = refl; body = refl; fact = refl }
other_fact f (t ∷ []) e = record { head = refl; body = refl; fact = refl }
other_fact f (t ∷ (u ∷ [])) e =
    record { head = ap (λ q. cond q t (comp f t (more u none))) e; body = ap (λ q. cond q u (atom (atom_name true_name))) e; fact = e }
other_fact f (t ∷ (u ∷ (v ∷ vs))) e = record { head = refl; body = refl; fact = refl }

count_fact : (f : Chars) (ts : List Tree) → length ts ≢ 2 → IsFact (compound f ts)
count_fact f [] ne = record { head = refl; body = refl; fact = refl }
count_fact f (t ∷ []) ne = record { head = refl; body = refl; fact = refl }
count_fact f (t ∷ (u ∷ [])) ne = absurd (ne refl)
count_fact f (t ∷ (u ∷ (v ∷ vs))) ne = record { head = refl; body = refl; fact = refl }

own_head : (w : Word) → head_is_apart w w ≡ false
own_head (Var x) = refl
own_head (Int i) = refl
own_head (Atom a) = refl
own_head (Comp k) = ap not (eqb_same k)

earlier_head : (n k : ℕ) (w : Word) → IsWord n k w → head_is_apart (Comp k) w ≡ true
earlier_head n k (Var x) inside = refl
earlier_head n k (Int i) inside = refl
earlier_head n k (Atom a) inside = refl
earlier_head n k (Comp j) inside = ap not (eqb_other j k (λ e. omega (arith, inside, e)))

both : (ws : List Word) (d : Word) → length ws ≡ 2 → ws ≡ get_or ws 0 d ∷ (get_or ws 1 d ∷ [])
both [] d e = absurd (omega arith)
both (v ∷ []) d e = absurd (omega arith)
both (v ∷ (w ∷ [])) d e = refl
both (v ∷ (w ∷ (u ∷ us))) d e = absurd (omega arith)

module _ (b : Block) (block : IsBlock b) where
  fact_parts : (body : Word) → IsFact (part_of b b.root) → body ≡ Atom true_name → IsParts b b.root body
  fact_parts body f e =
      record {
        head_in_block = block.root;
        body_in_block = subst (IsIn (block_heap b)) (sym e) tt;
        head_is = sym f.head;
        body_is = ap (part_of b) e ∙ bound-atom (bindings (block_heap b)) (atom_name true_name) ∙ sym f.body;
        rule_is = f.fact ∙ sym (own_head b.root);
      }

  -- A clause that is no compound term.
  pub plain_parts : (body : Word) → ((k : ℕ) → b.root ≢ Comp k) → body ≡ Atom true_name → IsParts b b.root body
  plain_parts body other e = fact_parts body (go b.root refl) e
    where
      go : (w : Word) → b.root ≡ w → IsFact (part_of b b.root)
      go (Var x) is =
          subst IsFact
          (sym (ap (part_of b) is ∙ part_variable b x (part_inside b x (subst (IsIn (block_heap b)) is block.root)))) (record { head = refl; body = refl; fact = refl })
      go (Int i) is = subst IsFact (sym (ap (part_of b) is ∙ bound-int (bindings (block_heap b)) i)) (record { head = refl; body = refl; fact = refl })
      go (Atom a) is = subst IsFact (sym (ap (part_of b) is ∙ bound-atom (bindings (block_heap b)) (atom_name a))) (record { head = refl; body = refl; fact = refl })
      go (Comp k) is = absurd (other k is)

  module _ (k : ℕ) (g : Head) (is : b.root ≡ Comp k) (at : g ≡ get_or b.heads.items k no_head) where
    inside : k < length b.heads.items
    inside = subst (IsIn (block_heap b)) is block.root

    abbrev ws : List Word
    ws = words_of b.args.items g

    root_means : part_of b b.root ≡ compound (atom_name g.name) (map (part_of b) ws)
    root_means =
        ap (part_of b) is ∙ opened (block_heap b) k block.fit inside
        ∙ ap (λ h. compound (atom_name h.name) (map (part_of b) (words_of b.args.items h))) (sym at)

    long : length ws ≡ g.count
    long = ap (λ h. length (words_of b.args.items h)) at ∙ length-words (block_heap b) k block.fit inside ∙ ap (λ h. h.count) (sym at)

    words_in : All (IsIn (block_heap b)) ws
    words_in = subst (λ h. All (IsIn (block_heap b)) (words_of b.args.items h)) (sym at) (words_inside (block_heap b) k block.fit inside)

    pub within : g.start + g.count ≤ length b.args.items
    within = subst (λ h. h.start + h.count ≤ length b.args.items) (sym at) (block.fit.heads k inside).within

    -- A compound term that is no rule.
    pub named_parts : (body : Word) → g.name ≢ neck → body ≡ Atom true_name → IsParts b b.root body
    named_parts body ne e =
        fact_parts body (subst IsFact (sym root_means) (other_fact (atom_name g.name) (map (part_of b) ws) (eqb_other g.name neck ne))) e

    pub counted_parts : (body : Word) → g.count ≢ 2 → body ≡ Atom true_name → IsParts b b.root body
    counted_parts body ne e =
        fact_parts body
        (subst IsFact (sym root_means)
        (count_fact (atom_name g.name) (map (part_of b) ws) (λ s. ne (sym long ∙ sym (length-map ws (part_of b)) ∙ s)))) e

    pub rule_parts : (head body : Word) → g.name ≡ neck → g.count ≡ 2 → head ≡ get_or b.args.items g.start (Int (pos 0))
        → body ≡ get_or b.args.items (g.start + 1) (Int (pos 0)) → IsParts b head body
    rule_parts head body name count e f =
        let d : Word = Int (pos 0) in
        let first : get_or ws 0 d ≡ head =
        get_or-take g.count (drop g.start b.args.items) 0 d (omega arith) ∙ get_or-drop g.start b.args.items 0 d
        ∙ ap (λ i. get_or b.args.items i d) (plus_zero g.start) ∙ sym e in
        let second : get_or ws 1 d ≡ body =
        get_or-take g.count (drop g.start b.args.items) 1 d (omega arith) ∙ get_or-drop g.start b.args.items 1 d ∙ sym f in
        let parts : ws ≡ head ∷ (body ∷ []) = both ws d (long ∙ count) ∙ ap₂ (λ v w. v ∷ (w ∷ [])) first second in
        let inside_all : All (IsIn (block_heap b)) (head ∷ (body ∷ [])) = subst (λ vs. All (IsIn (block_heap b)) vs) parts words_in in
        let means : part_of b b.root ≡ comp (atom_name g.name) (part_of b head) (more (part_of b body) none) =
        root_means ∙ ap (λ vs. compound (atom_name g.name) (map (part_of b) vs)) parts in
        let is_rule : (g.name == neck) ≡ true = (Decides-eqb g.name neck).1 name in
        let earlier_all : All (IsWord (length (block_heap b).numbers) k) ws =
        subst (λ h. All (IsWord (length (block_heap b).numbers) k) (words_of b.args.items h)) (sym at) (block.fit.heads k inside).earlier in
        let earlier : IsWord (length (block_heap b).numbers) k head =
        All-head (IsWord (length (block_heap b).numbers) k) head (body ∷ []) (subst (λ vs. All (IsWord (length (block_heap b).numbers) k) vs) parts earlier_all) in
        record {
          head_in_block = All-head (IsIn (block_heap b)) head (body ∷ []) inside_all;
          body_in_block = All-head (IsIn (block_heap b)) body [] (All-tail (IsIn (block_heap b)) head (body ∷ []) inside_all);
          head_is =
              sym (ap head_in means ∙ ap (λ q. cond q (part_of b head) (comp (atom_name g.name) (part_of b head) (more (part_of b body) none))) is_rule);
          body_is = sym (ap body_in means ∙ ap (λ q. cond q (part_of b body) (atom (atom_name true_name))) is_rule);
          rule_is = ap is_rule_term means ∙ is_rule ∙ sym (ap (λ r. head_is_apart r head) is ∙ earlier_head (length (block_heap b).numbers) k head earlier);
        }
      where
        plus_zero : (i : ℕ) → i + 0 ≡ i
        plus_zero i = omega arith
