-- Lists that are made for answers.
use Rattle.std.proofs.Common.{◌≡◌, ◌⊎◌, inl, inr, ℕ, zero, ◌<◌, suc, List, [], ◌∷◌, ◌++◌, length, map, take, drop, get_or, Option, IsSome, Result, Ok, codes, refl, sym, ap, ap₂, subst, ◌∙◌, arith, drop-cons}
use Rattle.std.specs.List.{All, Contains}
use Rattle.std.proofs.lemmas.List.{map-append, take-append-drop}
use Rattle.std.proofs.lemmas.List.Elements.{All-append, All-cons, All-head, All-map, All-nil, All-push, All-tail, All-weaker, Contains-append_cases, Contains-append_left, Contains-append_right}
use Rattle.pl_term.specs.Tree.{Chars, Tree, atom, comp, more, none}
use Rattle.pl_model.specs.Terms.{list_term}
use Rattle.pl_model.specs.TermBuiltins.{two}
use Rattle.atom_api.specs.FixedNames.{list_cell_name, nil_name}
use Rattle.atom_api.specs.Names.{Names, FixedStand}
use Rattle.term_store.specs.declared.words.Place.{Place}
use Rattle.term_store.specs.declared.words.StoreMark.{StoreMark}
use Rattle.term_store.specs.Contents.{Contents, Holds, IsMark, term_at}
use Rattle.world_api.specs.Asked.{texts_in, texts_in_all}
use Rattle.world_api.specs.Gains.{Gains}
use Rattle.world_api.specs.Texts.{Holds as Keeps}
use Rattle.world_api.proofs.Gaining.{gains_then, gains_weaker}
use Rattle.world_builtins.specs.Naming.{IsHeldAt, atoms_in}
use Rattle.world_builtins.specs.Spelling.{reads, spelled, text_of}
use Rattle.builtin_rows.specs.Lists.{AreHeld, IsListMade, cells_of}
use Rattle.builtin_rows.specs.Rows.{ArePlaced, Makes, terms_at}
use Rattle.builtin_rows.proofs.Balls.{fixed_held, text_is}
use Rattle.builtin_rows.proofs.Listing.{cell_is, nil_is}
use Rattle.builtin_atom.specs.declared.forms.Form.{Form}
use Rattle.builtin_atom.specs.declared.forms.Form.TheVariants.{Characters, Codes}
use Rattle.builtin_atom.specs.declared.listed.Element.{Element}
use Rattle.builtin_atom.specs.declared.listed.Element.TheVariants as element
use Rattle.builtin_atom.specs.Answering.{charged}
use Rattle.builtin_atom.specs.Forms.{to_by}
use Rattle.builtin_atom.specs.Listed.{AreListedAt, IsElementAt, element_refusals, element_texts}
use Rattle.builtin_atom.proofs.Kept.{held_kept, reads_kept}
use Rattle.builtin_atom.proofs.Rows.{answer_parts}

-- An element that stands hands on no refusal.
pub none_handed : {E : Type 0} (r : Result Element E) (e : Element) (p : Place) → r ≡ Ok e → e ≡ element.At p → element_refusals r ≡ []
none_handed r e p is at = ap element_refusals (is ∙ ap Ok at)

-- One element more
module _ (form : Form) (m n : Names) (keeps : Keeps m n) (s : Contents) where
  all_kept : (ps : List Place) → All (IsHeldAt m s) ps → map (reads n s) ps ≡ map (reads m s) ps
  all_kept [] h = refl
  all_kept (p ∷ ps) h =
      ap₂ (λ t ts. t ∷ ts) (reads_kept m n keeps s p (All-head (IsHeldAt m s) p ps h)) (all_kept ps (All-tail (IsHeldAt m s) p ps h))

  pub listed_more : (cs : Chars) (ps : List Place) (c : ℕ) (p : Place) → AreListedAt form m cs ps s → IsElementAt form n c p s
      → AreListedAt form n (cs ++ c ∷ []) (ps ++ p ∷ []) s
  listed_more cs ps c p a e =
      record {
        inside = All-push (Holds s) ps p a.inside e.inside;
        held = All-push (IsHeldAt n s) ps p (All-weaker (IsHeldAt m s) (IsHeldAt n s) (λ q h. held_kept m n keeps s q h) ps a.held) e.held;
        read_as =
            map-append (reads n s) ps (p ∷ [])
            ∙ ap₂ (λ xs x. xs ++ x ∷ []) (all_kept ps a.held ∙ a.read_as) e.reads_as ∙ sym (map-append (to_by form) cs (c ∷ []));
      }

-- The text of an element is one of those of the list.
one_text : (form : Form) (c : ℕ) (cs : Chars) (x : Chars) → Contains (element_texts form (c ∷ [])) x → Contains (element_texts form (c ∷ cs)) x
one_text Characters c cs x h = Contains-append_left ((c ∷ []) ∷ []) (map (λ d. d ∷ []) cs) x h
one_text Codes c cs x h = h

behind_text : (form : Form) (bs cs : Chars) (x : Chars) → Contains (element_texts form cs) x → Contains (element_texts form (bs ++ cs)) x
behind_text Characters bs cs x h =
    subst (λ l. Contains l x) (sym (map-append (λ d. d ∷ []) bs cs)) (Contains-append_right (map (λ d. d ∷ []) bs) (map (λ d. d ∷ []) cs) x h)
behind_text Codes bs cs x h = h

pub text_among : (form : Form) (cs : Chars) (i d : ℕ) (x : Chars) → i < length cs → Contains (element_texts form (get_or cs i d ∷ [])) x → Contains (element_texts form cs) x
text_among form cs i d x lt h =
    subst (λ (l : Chars). Contains (element_texts form l) x) (ap (λ (l : Chars). take i cs ++ l) (sym (drop-cons cs i d lt)) ∙ take-append-drop i cs)
    (behind_text form (take i cs) (get_or cs i d ∷ drop (suc i) cs) x (one_text form (get_or cs i d) (drop (suc i) cs) x h))

-- The texts of elements stand in the list.
pub listed_texts : (cs : Chars) (x : Chars) → Contains (map (λ d. d ∷ []) cs) x → Contains (texts_in (list_term (map (to_by Characters) cs))) x
listed_texts [] x h = Contains-append_right (codes "[]" ∷ []) [] x h
listed_texts (c ∷ cs) x h = go (listed_texts cs x) (Contains-append_cases ((c ∷ []) ∷ []) (map (λ d. d ∷ []) cs) x h)
  where
    rest : List Chars
    rest = texts_in (list_term (map (to_by Characters) cs))

    go : (Contains (map (λ d. d ∷ []) cs) x → Contains rest x) → Contains ((c ∷ []) ∷ []) x ⊎ Contains (map (λ d. d ∷ []) cs) x
        → Contains (texts_in (list_term (map (to_by Characters) (c ∷ cs)))) x
    go later (inl k) =
        Contains-append_right (codes "." ∷ []) (((c ∷ []) ∷ []) ++ (rest ++ [])) x (Contains-append_left ((c ∷ []) ∷ []) (rest ++ []) x k)
    go later (inr k) =
        Contains-append_right (codes "." ∷ []) (((c ∷ []) ∷ []) ++ (rest ++ [])) x
        (Contains-append_right ((c ∷ []) ∷ []) (rest ++ []) x (Contains-append_left rest [] x (later k)))

pub answer_texts : (form : Form) (t : Tree) (cs : Chars) (x : Chars) → Contains (element_texts form cs) x
    → Contains (texts_in_all (two t (list_term (map (to_by form) cs)))) x
answer_texts Characters t cs x h =
    Contains-append_right (texts_in t) (texts_in (list_term (map (to_by Characters) cs)) ++ []) x
    (Contains-append_left (texts_in (list_term (map (to_by Characters) cs))) [] x (listed_texts cs x h))
answer_texts Codes t cs x h =
    Contains-append_right (texts_in t) (texts_in (list_term (map (to_by Codes) cs)) ++ []) x
    (Contains-append_right (texts_in (list_term (map (to_by Codes) cs))) [] x h)

-- Terms that were made after cells were taken
makes_after : (s t : Contents) (next made : ℕ) → Makes (charged s made) zero zero zero t → Makes s next zero made t
makes_after s t next made g =
    let up : (k : StoreMark) → IsMark k s → IsMark k (charged s made) =
    λ k mk. record { within = mk.within; used = omega (arith, mk.used); fit = mk.fit } in
    record {
      others = g.others;
      adds =
          record {
            places = g.adds.places;
            marks = λ k mk. g.adds.marks k (up k mk);
            back = λ k mk. g.adds.back k (up k mk);
          };
      numbers = g.numbers;
      used = g.used ∙ omega arith;
      budget = g.budget;
    }

module _ (n : Names) (stands : FixedStand n) where
  cells_read : (ts : List Tree) → spelled (text_of n) (cells_of ts) ≡ list_term (map (spelled (text_of n)) ts)
  cells_read [] = ap atom (text_is n stands nil_name (codes "[]") nil_is)
  cells_read (t ∷ ts) =
      ap₂ (λ a b. comp a (spelled (text_of n) t) (more b none)) (text_is n stands list_cell_name (codes ".") cell_is) (cells_read ts)

  cells_held : (ts : List Tree) → AreHeld n ts → All (λ a. IsSome (n a)) (atoms_in (cells_of ts))
  cells_held [] h = All-cons (λ a. IsSome (n a)) nil_name [] (fixed_held n stands nil_name (codes "[]") nil_is) (All-nil (λ a. IsSome (n a)))
  cells_held (t ∷ ts) h =
      let P : ℕ → Type 0 = λ a. IsSome (n a) in
      let Q : Tree → Type 0 = λ u. All P (atoms_in u) in
      All-cons P list_cell_name (atoms_in t ++ (atoms_in (cells_of ts) ++ [])) (fixed_held n stands list_cell_name (codes ".") cell_is)
      (All-append P (atoms_in t) (atoms_in (cells_of ts) ++ []) (All-head Q t ts h)
      (All-append P (atoms_in (cells_of ts)) [] (cells_held ts (All-tail Q t ts h)) (All-nil P)))

map_map : (f : Tree → Tree) (h : Place → Tree) (ps : List Place) → map f (map h ps) ≡ map (λ p. f (h p)) ps
map_map f h [] = refl
map_map f h (p ∷ ps) = ap (λ ys. f (h p) ∷ ys) (map_map f h ps)

-- The answer with the list.
pub list_parts : (form : Form) (m n : Names) → Keeps m n → FixedStand n → (s t : Contents) (next made : ℕ) (first list : Place) (qs ps : List Place) (cs : Chars)
    → Holds s first → IsHeldAt m s first → AreListedAt form n cs qs (charged s made) → IsListMade (charged s made) qs t list → ps ≡ first ∷ (list ∷ [])
    → (two (reads m s first) (list_term (map (to_by form) cs)) ∷ [] ≡ terms_at n t ps ∷ []) × ((zero ≡ zero) × (Makes s next zero made t × ArePlaced n t ps))
list_parts form m n keeps stands s t next made first list qs ps cs inside held listed so is =
    let g = text_of n in
    let u = charged s made in
    let kept : term_at t first ≡ term_at s first = so.makes.others first inside in
    let first_reads : reads n t first ≡ reads m s first = ap (spelled g) kept ∙ reads_kept m n keeps s first held in
    let list_reads : reads n t list ≡ list_term (map (to_by form) cs) =
    ap (spelled g) so.means ∙ cells_read n stands (map (term_at u) qs) ∙ ap list_term (map_map (spelled g) (term_at u) qs ∙ listed.read_as) in
    let places_held : AreHeld n (map (term_at u) qs) = All-map (λ v. All (λ a. IsSome (n a)) (atoms_in v)) (term_at u) qs listed.held in
    let list_held : IsHeldAt n t list =
    subst (λ v. All (λ a. IsSome (n a)) (atoms_in v)) (sym so.means) (cells_held n stands (map (term_at u) qs) places_held) in
    let first_held : IsHeldAt n t first = subst (λ v. All (λ a. IsSome (n a)) (atoms_in v)) (sym kept) (held_kept m n keeps s first held) in
    answer_parts n s t next made (two (reads m s first) (list_term (map (to_by form) cs))) first list ps is (ap₂ two (sym first_reads) (sym list_reads))
    (makes_after s t next made so.makes) (so.makes.adds.places first inside) so.inside first_held list_held

-- The texts of one element more were asked.
pub asked_more : (form : Form) (cs : Chars) (i x : ℕ) (a b c : Option (List Chars)) → x ≡ get_or cs i x → i < length cs → Gains (Contains (element_texts form cs)) a b
    → Gains (Contains (element_texts form (x ∷ []))) b c → Gains (Contains (element_texts form cs)) a c
asked_more form cs i x a b c is lt g h =
    gains_then (Contains (element_texts form cs)) a b c g
    (gains_weaker (Contains (element_texts form (x ∷ []))) (Contains (element_texts form cs)) b c
    (λ t k. text_among form cs i x t lt (subst (λ y. Contains (element_texts form (y ∷ [])) t) is k)) h)
