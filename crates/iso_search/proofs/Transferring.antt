-- What stands in a store stands there still when the store gains terms.
use Rattle.std.proofs.Common.{◌≡◌, ℕ, ◌<◌, ◌+◌, List, [], ◌∷◌, ◌++◌, length, get_or, map, take, drop, refl, sym, ap, ap₂, subst, ◌∙◌, arith, length-take, length-drop}
use Rattle.std.specs.List.{All}
use Rattle.std.proofs.lemmas.List.{length-map, map-append, take_more}
use Rattle.std.proofs.lemmas.List.Elements.{All-weaker, All-push}
use Rattle.pl_term.specs.Tree.{Tree, atom, compound, var}
use Rattle.term_store.specs.declared.words.Place.{Place}
use Rattle.term_store.specs.declared.views.Arguments.{Arguments}
use Rattle.term_store.specs.Heap.{atom_name, meaning}
use Rattle.term_store.specs.Contents.{Adds, Contents, IsArguments, Makes, arguments_at, term_at, words_at}
use Rattle.iso_search.specs.declared.transfers.Copies.{Copies}
use Rattle.iso_search.specs.declared.transfers.VariableCopy.{VariableCopy}
use Rattle.iso_search.specs.declared.transfers.CompoundCopy.{CompoundCopy}
use Rattle.iso_search.specs.declared.parts.Compound.{Compound}
use Rattle.iso_search.specs.Parts.{AreCopies, Grows, StandsFor, compound_at}

pub grows_none : (s : Contents) → Grows s s
grows_none s = record { others = λ q h. refl; used = refl; budget = refl; adds = record { places = λ p h. h; marks = λ m h. h; back = λ m h. refl } }

pub grows_kept : (s t : Contents) → t ≡ s → Grows s t
grows_kept s t e = subst (Grows s) (sym e) (grows_none s)

pub grows_then : (s t u : Contents) → Grows s t → Grows t u → Grows s u
grows_then s t u g f =
    record {
      others = λ q h. f.others q (g.adds.places q h) ∙ g.others q h;
      used = f.used ∙ g.used;
      budget = f.budget ∙ g.budget;
      adds =
          record {
            places = λ p h. f.adds.places p (g.adds.places p h);
            marks = λ m h. f.adds.marks m (g.adds.marks m h);
            back = λ m h. f.adds.back m (g.adds.marks m h) ∙ g.adds.back m h;
          };
    }

pub grows_made : (s t : Contents) (term : Tree) (p : Place) → Makes s term t p → Adds s t → Grows s t
grows_made s t term p m a = record { others = m.others; used = m.used; budget = m.budget; adds = a }

stands_later : (t u : Contents) (term : Tree) (p : Place) → Grows t u → StandsFor t term p → StandsFor u term p
stands_later t u term p g f = record { holds = g.adds.places p f.holds; means = g.others p f.holds ∙ f.means }

pub copies_later : (s t u : Contents) (c : Copies) → Grows t u → AreCopies s t c → AreCopies s u c
copies_later s t u c g a =
    record {
      variables =
          All-weaker (λ (v : VariableCopy). StandsFor t (var v.number) v.place) (λ v. StandsFor u (var v.number) v.place)
          (λ v f. stands_later t u (var v.number) v.place g f) c.variables.items a.variables;
      compounds =
          All-weaker (λ (k : CompoundCopy). StandsFor t (compound_at s k.compound) k.place) (λ k. StandsFor u (compound_at s k.compound) k.place)
          (λ k f. stands_later t u (compound_at s k.compound) k.place g f) c.compounds.items a.compounds;
    }

pub variable_added : (s t u : Contents) (c d : Copies) (n : ℕ) (p : Place) → AreCopies s t c → Makes t (var n) u p → Adds t u
    → d.variables.items ≡ c.variables.items ++ record { number = n; place = p } ∷ [] → d.compounds.items ≡ c.compounds.items → AreCopies s u d
variable_added s t u c d n p a m adds variables compounds =
    let later = copies_later s t u c (grows_made t u (var n) p m adds) a in
    let P = λ (v : VariableCopy). StandsFor u (var v.number) v.place in
    record {
      variables = subst (All P) (sym variables) (All-push P c.variables.items (record { number = n; place = p }) later.variables (record { holds = m.holds; means = m.means }));
      compounds = subst (All (λ (k : CompoundCopy). StandsFor u (compound_at s k.compound) k.place)) (sym compounds) later.compounds;
    }

pub compound_added : (s t u : Contents) (c d : Copies) (k : Compound) (words : List Place) (p : Place) → AreCopies s t c
    → Makes t (compound (atom_name k.name) (map (term_at t) words)) u p → Adds t u → map (term_at t) words ≡ arguments_at s k.arguments
    → d.compounds.items ≡ c.compounds.items ++ record { compound = k; place = p } ∷ [] → d.variables.items ≡ c.variables.items → AreCopies s u d
compound_added s t u c d k words p a m adds means compounds variables =
    let later = copies_later s t u c (grows_made t u (compound (atom_name k.name) (map (term_at t) words)) p m adds) a in
    let P = λ (x : CompoundCopy). StandsFor u (compound_at s x.compound) x.place in
    record {
      variables = subst (All (λ (v : VariableCopy). StandsFor u (var v.number) v.place)) (sym variables) later.variables;
      compounds =
          subst (All P) (sym compounds)
          (All-push P c.compounds.items (record { compound = k; place = p }) later.compounds
          (record { holds = m.holds; means = m.means ∙ ap (compound (atom_name k.name)) means }));
    }

-- A compound term's arguments are as many as they are said to be.
pub how_many : (s : Contents) (a : Arguments) → IsArguments s a → length (arguments_at s a) ≡ a.count
how_many s a args =
    length-map (words_at s a) (meaning s.heap) ∙ omega (arith, length-take a.count (drop a.start s.heap.args), length-drop a.start s.heap.args, args.within)

-- One more argument was copied.
pub argument_copied : (s t : Contents) (a : Arguments) (before after : List Place) (i : ℕ) (at p : Place) → IsArguments s a → i < a.count
    → map (term_at t) before ≡ take i (arguments_at s a) → after ≡ before ++ p ∷ [] → term_at t p ≡ term_at s at
    → term_at s at ≡ get_or (arguments_at s a) i (atom []) → map (term_at t) after ≡ take (i + 1) (arguments_at s a)
argument_copied s t a before after i at p args lt so_far e means stands =
    let xs = arguments_at s a in
    let within : i < length xs = omega (arith, how_many s a args, lt) in
    ap (map (term_at t)) e ∙ map-append (term_at t) before (p ∷ [])
    ∙ ap₂ (λ ys y. ys ++ y ∷ []) so_far (means ∙ stands) ∙ sym (take_more xs i (atom []) within)
