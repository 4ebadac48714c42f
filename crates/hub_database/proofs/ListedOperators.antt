-- The operators, with atoms as their names.
use Rattle.std.proofs.Common.{◌≡◌, ◌<◌, ℕ, ◌+◌, List, [], ◌∷◌, ◌++◌, map, take, length, get_or, Option, Some, refl, sym, ap, ap₂, subst, ◌∙◌, inl, inr, arith, append_assoc, append-nil}
use Rattle.std.specs.Prelude.{IsSome}
use Rattle.std.specs.List.{All, Contains, slice_get}
use Rattle.std.proofs.lemmas.List.Elements.{All-nil, All-cons, All-head, All-tail, All-append, Contains-get_or}
use Rattle.std.proofs.lemmas.Option.{get_or_from_slice_get, slice_get_read}
use Rattle.std.proofs.lemmas.List.{length-map, map-append, map_more}
use Rattle.pl_term.specs.Tree.{Chars}
use Rattle.pl_model.specs.History.{History}
use Rattle.pl_model.specs.OperatorTable.{Entry, Key, operators, place_of}
use Rattle.pl_model.specs.Requests as requests
use Rattle.pl_model.specs.SharedState.{state_at}
use Rattle.op_table.specs.Entries.{entries_of, entry_of}
use Rattle.op_table.specs.declared.operator.Operator.{Operator as Held}
use Rattle.atom_api.specs.Names.{Names}
use Rattle.world_api.specs.Replies.{HasNames, operator_in}
use Rattle.world_api.specs.Texts.{text_of}
use Rattle.world_api.specs.declared.reply.Operator.{Operator}
use Rattle.world_api.specs.declared.reply.Reply.TheVariants as replies
use Rattle.counted_terms.specs.Keeping.{HoldsOn}
use Rattle.counted_terms.specs.declared.row.Row.{Row}
use Rattle.counted_terms.specs.declared.row.Row.TheVariants.{Reads, Makes, Waits, NeedsAtoms, Retry, Worn, Memory}
use Rattle.hub_database.specs.Listing.{AsksAmong, AsksOne, IsWithout, ListsOperators, operator_names}
use Rattle.hub_database.specs.Rows.{RepliesBy, Tells}
use Rattle.hub_database.proofs.ChangedRows.{got_at}
use Rattle.hub_database.proofs.Heads.{text_is}
use Rattle.hub_database.proofs.ListedProcedures.{some_on, text_on}
use Rattle.hub_database.proofs.Served.{operators_read}

-- the operators that are listed, as an atom more is held
module _ (m n : Names) (on : HoldsOn m n) where
  operators_on : (os : List Operator) → All (λ (o : Operator). IsSome (m o.name)) os → All (λ (o : Operator). IsSome (n o.name)) os
  operators_on [] all = All-nil (λ (o : Operator). IsSome (n o.name))
  operators_on (o ∷ os) all =
      All-cons (λ (x : Operator). IsSome (n x.name)) o os (some_on m n on o.name (All-head (λ (x : Operator). IsSome (m x.name)) o os all))
      (operators_on os (All-tail (λ (x : Operator). IsSome (m x.name)) o os all))

  same_operators : (os : List Operator) → All (λ (o : Operator). IsSome (m o.name)) os → map (operator_in (text_of n)) os ≡ map (operator_in (text_of m)) os
  same_operators [] all = refl
  same_operators (o ∷ os) all =
      ap₂ (λ (t : Chars) (l : List (Key × Entry)). ((t, place_of o.kind), (o.priority, o.kind)) ∷ l) (text_on m n on o.name (All-head (λ (x : Operator). IsSome (m x.name)) o os all))
      (same_operators os (All-tail (λ (x : Operator). IsSome (m x.name)) o os all))

-- their names
pub operators_named : (n : Names) (os : List Operator) → All (λ (o : Operator). IsSome (n o.name)) os → All (λ a. IsSome (n a)) (map (λ (o : Operator). o.name) os)
operators_named n [] all = All-nil (λ a. IsSome (n a))
operators_named n (o ∷ os) all =
    All-cons (λ a. IsSome (n a)) o.name (map (λ (x : Operator). x.name) os) (All-head (λ (x : Operator). IsSome (n x.name)) o os all)
    (operators_named n os (All-tail (λ (x : Operator). IsSome (n x.name)) o os all))

-- TEXTS THAT WERE ASKED
pub none_among : (ts old : List Chars) → AsksAmong ts old old
none_among ts old = record { more = []; asked = sym (append-nil old); each = All-nil (λ t. Contains ts t) }

pub one_among : (ts old mid new : List Chars) (t : Chars) → Contains ts t → AsksAmong ts old mid → AsksOne t mid new → AsksAmong ts old new
one_among ts old mid new t has was (inl same) = record { more = was.more; asked = same ∙ was.asked; each = was.each }
one_among ts old mid new t has was (inr more) = record {
  more = was.more ++ t ∷ [];
  asked = more ∙ (ap (λ l. l ++ t ∷ []) was.asked ∙ append_assoc old was.more (t ∷ []));
  each = All-append (λ u. Contains ts u) was.more (t ∷ []) was.each (All-cons (λ u. Contains ts u) t [] has (All-nil (λ u. Contains ts u)));
}

-- the name of an operator is one of the names
pub operator_among : (os : List Held) (i : ℕ) (x : Held) → i < length os → x ≡ get_or os i x → Contains (operator_names (entries_of os)) x.name
operator_among os i x lt at =
    let all = operator_names (entries_of os) in
    let got : slice_get all i ≡ Some x.name = got_at (λ (o : Key × Entry). o.0.0) (entries_of os) i (entry_of x) (got_at entry_of os i x (slice_get_read os (length os) i x refl lt at)) in
    subst (λ (t : Chars). Contains all t) (get_or_from_slice_get all i x.name x.name got) (Contains-get_or all i x.name (omega (arith, lt, length-map (entries_of os) (λ (o : Key × Entry). o.0.0), length-map os entry_of)))

-- a row without an atom lists nothing
pub without_operators : (text : ℕ → Chars) (os : List (Key × Entry)) (row : Row) → IsWithout row → ListsOperators text os row
without_operators text os (Reads r) is = absurd is
without_operators text os (Makes r) is = absurd is
without_operators text os (Waits on) is = absurd is
without_operators text os (NeedsAtoms p) is = tt
without_operators text os (Retry c) is = tt
without_operators text os (Worn w) is = tt
without_operators text os Memory is = tt

pub without_told : (row : Row) → IsWithout row → RepliesBy (λ r. HasNames r) row
without_told (Reads r) is = absurd is
without_told (Makes r) is = absurd is
without_told (Waits on) is = absurd is
without_told (NeedsAtoms p) is = tt
without_told (Retry c) is = tt
without_told (Worn w) is = tt
without_told Memory is = tt

-- THE ANSWER
pub operators_tell : (goals e : ℕ) (h : History) (text : ℕ → Chars) (os : List (Key × Entry)) → os ≡ operators (state_at goals h (length h)).operators → (row : Row) → ListsOperators text os row
    → Tells goals e text requests.read_operators h row
operators_tell goals e h text os are (Reads (replies.Operators v)) l = record {
  reply = requests.standing (state_at goals h (length h)).operators (state_at goals h (length h)).flags.double_quotes;
  serves = operators_read e (state_at goals h (length h)) (length h);
  says = sym (l ∙ are);
}
operators_tell goals e h text os are (Reads (replies.Standing ops quotes)) l = absurd l
operators_tell goals e h text os are (Reads (replies.Clauses f)) l = absurd l
operators_tell goals e h text os are (Reads (replies.Procedures ps)) l = absurd l
operators_tell goals e h text os are (Reads (replies.Flags fs)) l = absurd l
operators_tell goals e h text os are (Reads (replies.Named n)) l = absurd l
operators_tell goals e h text os are (Reads (replies.Message t)) l = absurd l
operators_tell goals e h text os are (Reads replies.NoMessage) l = absurd l
operators_tell goals e h text os are (Reads (replies.Status t)) l = absurd l
operators_tell goals e h text os are (Reads replies.Done) l = absurd l
operators_tell goals e h text os are (Reads replies.Gone) l = absurd l
operators_tell goals e h text os are (Reads (replies.Refused t)) l = absurd l
operators_tell goals e h text os are (Makes r) l = absurd l
operators_tell goals e h text os are (Waits on) l = absurd l
operators_tell goals e h text os are (NeedsAtoms p) l = tt
operators_tell goals e h text os are (Retry c) l = tt
operators_tell goals e h text os are (Worn w) l = tt
operators_tell goals e h text os are Memory l = tt

-- ONE OPERATOR MORE, whose name is the atom
module _ (m n : Names) (on : HoldsOn m n) (found new : List Operator) (all : All (λ (o : Operator). IsSome (m o.name)) found) (a : ℕ) (x : Held) (is : n a ≡ Some x.name)
    (more : new ≡ found ++ record { priority = x.priority; kind = x.kind; name = a } ∷ []) where
  abbrev one : Operator
  one = record { priority = x.priority; kind = x.kind; name = a }

  pub operator_named : All (λ (o : Operator). IsSome (n o.name)) new
  operator_named =
      subst (λ (l : List Operator). All (λ (o : Operator). IsSome (n o.name)) l) (sym more)
      (All-append (λ (o : Operator). IsSome (n o.name)) found (one ∷ []) (operators_on m n on found all)
      (All-cons (λ (o : Operator). IsSome (n o.name)) one [] (subst (λ (o : Option Chars). IsSome o) (sym is) refl) (All-nil (λ (o : Operator). IsSome (n o.name)))))

  pub operator_more : (os : List Held) (i : ℕ) → i < length os → x ≡ get_or os i x → map (operator_in (text_of m)) found ≡ map entry_of (take i os) → map (operator_in (text_of n)) new ≡ map entry_of (take (i + 1) os)
  operator_more os i lt at so_far =
      ap (λ (l : List Operator). map (operator_in (text_of n)) l) more
      ∙ map-append (operator_in (text_of n)) found (one ∷ [])
      ∙ ap₂ (λ (l r : List (Key × Entry)). l ++ r) (same_operators m n on found all ∙ so_far)
      (ap (λ (t : Chars). ((t, place_of x.kind), (x.priority, x.kind)) ∷ []) (text_is n a x.name is) ∙ ap (λ (z : Held). entry_of z ∷ []) at)
      ∙ sym (map_more entry_of os i x lt)
