-- The turns of reading with a stack: what takes a term that has ended.
use Rattle.std.proofs.Common.{◌≡◌, ℕ, ◌+◌, ◌<◌, ◌≤◌, List, ◌∷◌, ◌++◌, length, take, drop, Ok, Err, Option, Some, None, Vec, Global, refl, sym, ap, subst, ◌∙◌, arith}
use Rattle.std.proofs.lemmas.List.{take-take, length-take-le}
use Rattle.pl_term.specs.Tree.{Chars, Tree, Trees, none, more, count, join}
use Rattle.pl_term.specs.Nodes.{nodes, nodes_all, tree, forest}
use Rattle.pl_term.specs.declared.node.Node.{Node}
use Rattle.pl_term.specs.declared.node.Node.TheVariants.{Comp}
use Rattle.pl_term.proofs.Spelled.{tree_spelled, nodes_spelled}
use Rattle.pl_model.specs.declared.lexical.Mark.{Mark}
use Rattle.pl_model.specs.declared.lexical.Mark.TheVariants.{Close, Comma}
use Rattle.pl_model.specs.declared.lexical.Lexeme.TheVariants.{Token, End}
use Rattle.pl_model.specs.declared.grammar.Quotes.{Quotes}
use Rattle.pl_model.specs.LexicalTokens.{Lexed, token_at}
use Rattle.pl_model.specs.Grammar.{Reading, Part, Outcome, and_then, moved}
use Rattle.pl_model.specs.TermGrammar.{Items, Lookup, behind_mark, complete, unexpected, closed_by, closed, further}
use Rattle.pl_model.proofs.TermDepth.{whole, rest, sequence, further_at, sequence-is}
use Rattle.prolog_reader.specs.declared.stack.Frame.TheVariants.{Behind, Closing, Arguments}
use Rattle.prolog_reader.specs.declared.stack.Mode.TheVariants.{Term as TermMode, Part as PartMode, Ended}
use Rattle.prolog_reader.specs.declared.stack.Reader.{Reader}
use Rattle.prolog_reader.specs.Ahead.{fault_of}
use Rattle.prolog_reader.specs.Pieces.{spelled}
use Rattle.prolog_reader.specs.Stack.{compound_of, behind, completed, enclosed_by, applied, plug, Holds, stack, reading, part_at, IsBuilt, IsAt, turns_left, Takes, taken, Pushes}
use Rattle.prolog_reader.proofs.Fronts.{join-assoc, count-join, nodes_all-push, nodes-compound, forest-all, spelled-split}
use Rattle.prolog_reader.proofs.Turns.{holds-same, push-turns, plug-fault, plug-same}
use Rattle.prolog_reader.proofs.Primaries.{then-pointwise, then-made}
use Rattle.prolog_reader.proofs.Advances.{advanced, mark-follows}
use Rattle.prolog_reader.proofs.Joins.{PutsFront}

-- What stands ahead where a closing token does, or does not.

unexpected-fault : (text : List ℕ) (l : Lexed) → unexpected text {A = Part} l ≡ Err (fault_of text l)
unexpected-fault text (Err f) = refl
unexpected-fault text (Ok End) = refl
unexpected-fault text (Ok (Token kind s e)) = refl

closed-by : (text : List ℕ) (mark : Mark) (t : Tree) (r : Reading) (l : Lexed) (o : Option ℕ) → l ≡ token_at text r.at → o ≡ behind_mark mark l
    → closed text mark t r ≡ closed_by text t r l o
closed-by text mark t r l o at is =
    ap (λ k. closed_by text t r k (behind_mark mark k)) (sym at) ∙ ap (closed_by text t r l) (sym is)

pub closed-none : (text : List ℕ) (mark : Mark) (t : Tree) (r : Reading) (l : Lexed) → l ≡ token_at text r.at → None ≡ behind_mark mark l
    → closed text mark t r ≡ Err (fault_of text l)
closed-none text mark t r l at is = closed-by text mark t r l None at is ∙ unexpected-fault text l

pub closed-some : (text : List ℕ) (mark : Mark) (t : Tree) (r : Reading) (l : Lexed) (e : ℕ) → l ≡ token_at text r.at → Some e ≡ behind_mark mark l
    → closed text mark t r ≡ complete t r e
closed-some text mark t r l e at is = closed-by text mark t r l (Some e) at is

-- The pieces from an earlier place on: those before the last term, and its own.
pub record Grown {Z : Type 0} (ps : List (Vec Node Z)) (start last : ℕ) : Type 0 where
  pub order : start < length ps
  pub segment : spelled (drop start ps) ≡ spelled (drop start (take last ps)) ++ nodes (tree (spelled (drop last ps)))
  pub below : take start ps ≡ take start (take last ps)

pub grown : {Z : Type 0} (ps : List (Vec Node Z)) (start last : ℕ) → last < length ps → start ≤ length (take last ps)
    → nodes (tree (spelled (drop last ps))) ≡ spelled (drop last ps) → Grown ps start last
grown {Z} ps start last begins from term =
    let inside : last ≤ length ps = omega arith in
    let order : start ≤ last = omega (arith, length-take-le last ps inside) in
    record {
      order = omega arith;
      segment = spelled-split ps start last order inside ∙ ap (λ ns. spelled (drop start (take last ps)) ++ ns) (sym term);
      below = sym (take-take start last ps order);
    }

module _ (text : List ℕ) (ops : Lookup) (quotes : Quotes) where
  -- An operator's last argument.
  pub behind-turns : (old : Reader) (max own start priority last : ℕ) → IsAt text old → IsBuilt (Behind max own start ∷ stack old) old last
      → Takes text ops quotes old (Behind max own start) priority last old (Ok (PartMode max own start))
  behind-turns old max own start priority last place built =
      let ps = old.pieces.items in
      let front = spelled (drop start (take last ps)) in
      let t = tree (spelled (drop last ps)) in
      let g = grown ps start last built.begins built.frames.0 built.term in
      let fits : IsBuilt (stack old) old start = record {
        begins = g.order;
        term = ap (λ ns. nodes (tree ns)) g.segment ∙ built.frames.1 t ∙ sym g.segment;
        frames = holds-same (stack old) (stack old) (take start ps) (take start (take last ps)) refl g.below built.frames.2;
      } in (
        record { place = place; fits = fits },
        omega arith,
        plug-same text ops quotes (stack old) (stack old) (take start ps) (take start (take last ps)) (rest text ops quotes max (part_at old own start))
            (rest text ops quotes max (completed front own (part_at old priority last))) refl g.below
            (ap (λ ns. rest text ops quotes max (record { term = tree ns; priority = own; reading = reading old })) g.segment),
      )

  -- A closing token.

  pub close-fault : (old : Reader) (max : ℕ) (mark : Mark) (start priority last : ℕ) → IsAt text old → None ≡ behind_mark mark old.ahead
      → taken text ops quotes old (Closing max mark start) priority last ≡ Err (fault_of text old.ahead)
  close-fault old max mark start priority last place none_there =
      let before = take last old.pieces.items in
      ap (λ (m : Outcome Part). plug text ops quotes (stack old) (take start before) (and_then m (rest text ops quotes max)))
      (closed-none text mark (behind (spelled (drop start before)) (tree (spelled (drop last old.pieces.items)))) (reading old) old.ahead place.ahead none_there)
      ∙ plug-fault text ops quotes (stack old) (take start before) (fault_of text old.ahead)

  pub close-turns : (old new : Reader) (max : ℕ) (mark : Mark) (start priority last end : ℕ) → IsAt text old
      → IsBuilt (Closing max mark start ∷ stack old) old last → Some end ≡ behind_mark mark old.ahead → new ≡ advanced text old end
      → Takes text ops quotes old (Closing max mark start) priority last new (Ok (PartMode max 0 start))
  close-turns old new max mark start priority last end place built there new_is =
      let ps = old.pieces.items in
      let front = spelled (drop start (take last ps)) in
      let t = tree (spelled (drop last ps)) in
      let g = grown ps start last built.begins built.frames.0 built.term in
      let found = mark-follows text old.at mark old.ahead end place.ahead there in
      let reached : Reader = advanced text old end in
      let fits : IsBuilt (stack old) reached start = record {
        begins = g.order;
        term = ap (λ ns. nodes (tree ns)) g.segment ∙ built.frames.1 t ∙ sym g.segment;
        frames = holds-same (stack old) (stack old) (take start ps) (take start (take last ps)) refl g.below built.frames.2;
      } in
      let turns : Takes text ops quotes old (Closing max mark start) priority last reached (Ok (PartMode max 0 start)) = (
        record { place = record { within = found.1; ahead = refl; numbered = omega (arith, place.numbered, found.0) }; fits = fits },
        omega (arith, found.0, found.1),
        plug-same text ops quotes (stack old) (stack old) (take start ps) (take start (take last ps)) (rest text ops quotes max (part_at reached 0 start))
            (and_then (enclosed_by text ops quotes front mark (part_at old priority last)) (rest text ops quotes max)) refl g.below
            (ap (λ ns. rest text ops quotes max (record { term = tree ns; priority = 0; reading = moved (reading old) end })) g.segment
            ∙ ap (λ (m : Outcome Part). and_then m (rest text ops quotes max)) (sym (closed-some text mark (behind front t) (reading old) old.ahead end place.ahead there))),
      ) in
      subst (λ (r : Reader). Takes text ops quotes old (Closing max mark start) priority last r (Ok (PartMode max 0 start))) (sym new_is) turns

  -- After a term among others.

  pub further-none : (old : Reader) (priority last : ℕ) → IsAt text old → None ≡ behind_mark Comma old.ahead
      → further_at text ops quotes (part_at old priority last)
      ≡ Ok (record { first = tree (spelled (drop last old.pieces.items)); others = none; reading = reading old })
  further-none old priority last place none_there =
      ap (further text ops quotes (sequence text ops quotes) (part_at old priority last)) (ap (behind_mark Comma) (sym place.ahead) ∙ sym none_there)

  abbrev pub pushed : Tree → Items → Items
  pushed t q = record { first = t; others = more q.first q.others; reading = q.reading }

  further-some : (old : Reader) (priority last end : ℕ) → IsAt text old → Some end ≡ behind_mark Comma old.ahead
      → further_at text ops quotes (part_at old priority last)
      ≡ and_then (sequence text ops quotes (moved (reading old) end)) (λ q. Ok (pushed (tree (spelled (drop last old.pieces.items))) q))
  further-some old priority last end place there =
      ap (further text ops quotes (sequence text ops quotes) (part_at old priority last)) (ap (behind_mark Comma) (sym place.ahead) ∙ sym there)

  -- Some terms more, of which the first is read next.
  pub sequence-more : (old : Reader) (priority last end : ℕ) (k k' : Items → Outcome Part) → IsAt text old → Some end ≡ behind_mark Comma old.ahead
      → ((q : Items) → k' q ≡ k (pushed (tree (spelled (drop last old.pieces.items))) q))
      → and_then (and_then (whole text ops quotes 999 (moved (reading old) end)) (further_at text ops quotes)) k'
      ≡ and_then (further_at text ops quotes (part_at old priority last)) k
  sequence-more old priority last end k k' place there h =
      let r : Reading = moved (reading old) end in
      let t = tree (spelled (drop last old.pieces.items)) in
      ap (λ (m : Outcome Items). and_then m k') (sym (sequence-is text ops quotes r))
      ∙ then-pointwise (sequence text ops quotes r) k' (λ q. k (pushed t q)) h
      ∙ sym (then-made (sequence text ops quotes r) (pushed t) k)
      ∙ ap (λ (m : Outcome Items). and_then m k) (sym (further-some old priority last end place there))

  -- Arguments.

  argument-outcome : ℕ → Chars → Trees → Outcome Items → Outcome Part
  argument-outcome max name ts m = and_then (and_then m (applied text ops quotes name ts)) (rest text ops quotes max)

  pub argument-fault : (old : Reader) (max : ℕ) (name : Chars) (number start priority last : ℕ) → IsAt text old
      → None ≡ behind_mark Comma old.ahead → None ≡ behind_mark Close old.ahead
      → taken text ops quotes old (Arguments max name number start) priority last ≡ Err (fault_of text old.ahead)
  unfolding argument-outcome
  argument-fault old max name number start priority last place no_comma no_close =
      let before = take last old.pieces.items in
      let ts = forest (spelled (drop start before)) in
      let t = tree (spelled (drop last old.pieces.items)) in
      ap (λ (m : Outcome Items). plug text ops quotes (stack old) (take start before) (argument-outcome max name ts m)) (further-none old priority last place no_comma)
      ∙ ap (λ (m : Outcome Part). plug text ops quotes (stack old) (take start before) (and_then m (rest text ops quotes max)))
      (closed-none text Close (compound_of name (join ts (more t none))) (reading old) old.ahead place.ahead no_close)
      ∙ plug-fault text ops quotes (stack old) (take start before) (fault_of text old.ahead)

  pub argument-closes : (old new : Reader) (pieces : Vec (Vec Node Global) Global) (max : ℕ) (name : Chars) (number start priority last end : ℕ)
      → IsAt text old → IsBuilt (Arguments max name number start ∷ stack old) old last → None ≡ behind_mark Comma old.ahead
      → Some end ≡ behind_mark Close old.ahead → PutsFront old pieces start (Comp name (number + 1))
      → new ≡ record old { at = end; ahead = token_at text end; pieces = pieces }
      → Takes text ops quotes old (Arguments max name number start) priority last new (Ok (PartMode max 0 start))
  unfolding argument-outcome
  argument-closes old new pieces max name number start priority last end place built no_comma there puts new_is =
      let ps = old.pieces.items in
      let before = take last ps in
      let ts = forest (spelled (drop start before)) in
      let t = tree (spelled (drop last ps)) in
      let u = compound_of name (join ts (more t none)) in
      let g = grown ps start last built.begins (omega (arith, built.frames.0)) built.term in
      let found = mark-follows text old.at Close old.ahead end place.ahead there in
      let seg : spelled (drop start pieces.items) ≡ nodes u
      = puts.node_is ∙ ap (λ ns. Comp name (number + 1) ∷ ns) (g.segment ∙ ap (λ ns. ns ++ nodes t) (sym built.frames.1))
      ∙ ap (λ n. Comp name (n + 1) ∷ (nodes_all ts ++ nodes t)) built.frames.2 ∙ sym (nodes-compound name ts t) in
      let below : take start pieces.items ≡ take start before = puts.front ∙ g.below in
      let reached : Reader = record old { at = end; ahead = token_at text end; pieces = pieces } in
      let turns : Takes text ops quotes old (Arguments max name number start) priority last reached (Ok (PartMode max 0 start)) = (
        record {
          place = record { within = found.1; ahead = refl; numbered = omega (arith, place.numbered, found.0) };
          fits = record {
            begins = omega (arith, g.order, puts.size);
            term = nodes_spelled (spelled (drop start pieces.items)) u seg;
            frames = holds-same (stack old) (stack old) (take start pieces.items) (take start before) refl below built.frames.3;
          };
        },
        omega (arith, found.0, found.1),
        plug-same text ops quotes (stack old) (stack old) (take start pieces.items) (take start before) (rest text ops quotes max (part_at reached 0 start))
            (argument-outcome max name ts (further_at text ops quotes (part_at old priority last))) refl below
            (ap (λ (x : Tree). rest text ops quotes max (record { term = x; priority = 0; reading = moved (reading old) end })) (tree_spelled (spelled (drop start pieces.items)) u seg)
            ∙ ap (λ (m : Outcome Part). and_then m (rest text ops quotes max)) (sym (closed-some text Close u (reading old) old.ahead end place.ahead there))
            ∙ ap (λ (m : Outcome Items). argument-outcome max name ts m) (sym (further-none old priority last place no_comma))),
      ) in
      subst (λ (r : Reader). Takes text ops quotes old (Arguments max name number start) priority last r (Ok (PartMode max 0 start))) (sym new_is) turns

  pub argument-goes_on : (old new : Reader) (max : ℕ) (name : Chars) (number start priority last end : ℕ)
      → IsAt text old → IsBuilt (Arguments max name number start ∷ stack old) old last → Some end ≡ behind_mark Comma old.ahead
      → Pushes text old new (Arguments max name (number + 1) start) end
      → Takes text ops quotes old (Arguments max name number start) priority last new (Ok (TermMode 999))
  unfolding argument-outcome
  argument-goes_on old new max name number start priority last end place built there pushes =
      let ps = old.pieces.items in
      let before = take last ps in
      let ts = forest (spelled (drop start before)) in
      let t = tree (spelled (drop last ps)) in
      let r : Reading = moved (reading old) end in
      let g = grown ps start last built.begins (omega (arith, built.frames.0)) built.term in
      let found = mark-follows text old.at Comma old.ahead end place.ahead there in
      let inside : last ≤ length ps = omega (arith, built.begins) in
      let first : length before ≡ last = length-take-le last ps inside in
      let seg : spelled (drop start ps) ≡ nodes_all (join ts (more t none))
      = g.segment ∙ ap (λ ns. ns ++ nodes t) (sym built.frames.1) ∙ sym (nodes_all-push ts t) in
      let read_back : forest (spelled (drop start ps)) ≡ join ts (more t none) = ap forest seg ∙ forest-all (join ts (more t none)) in
      let holds : Holds (Arguments max name (number + 1) start ∷ stack old) ps = (
        omega (arith, built.frames.0, built.begins),
        ap nodes_all read_back ∙ sym seg,
        omega (arith, built.frames.2, ap count read_back, count-join ts (more t none)),
        holds-same (stack old) (stack old) (take start ps) (take start before) refl g.below built.frames.3,
      ) in
      let terms : Outcome Items = and_then (whole text ops quotes 999 r) (further_at text ops quotes) in
      push-turns text ops quotes old new (Arguments max name (number + 1) start) 999 (turns_left text old (Ended priority last) + 2) end
      (taken text ops quotes old (Arguments max name number start) priority last) pushes found.0 found.1 place.numbered holds (omega arith)
      (plug-same text ops quotes (stack old) (stack old) (take start ps) (take start before)
      (argument-outcome max name (forest (spelled (drop start ps))) terms)
      (argument-outcome max name ts (further_at text ops quotes (part_at old priority last))) refl g.below
      (ap (λ (us : Trees). argument-outcome max name us terms) read_back
      ∙ ap (λ (m : Outcome Part). and_then m (rest text ops quotes max))
      (sequence-more old priority last end (applied text ops quotes name ts) (applied text ops quotes name (join ts (more t none))) place there
      (λ q. ap (λ (us : Trees). closed text Close (compound_of name us) q.reading) (join-assoc ts (more t none) (more q.first q.others))))))
