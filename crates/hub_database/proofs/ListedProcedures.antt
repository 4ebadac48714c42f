-- The procedures that have clauses, with atoms as their names.
use Rattle.std.proofs.Common.{◌≡◌, ◌<◌, ℕ, ◌==◌, ◌+◌, List, [], ◌∷◌, ◌++◌, map, take, length, get_or, Option, Some, None, Bool, true, false, cond, refl, sym, ap, ap₂, subst, ◌∙◌, inl, inr, arith, append_assoc, append-nil}
use Rattle.std.specs.Prelude.{IsSome}
use Rattle.std.specs.List.{All, Contains, slice_get}
use Rattle.std.proofs.lemmas.Bool.{false≢true}
use Rattle.std.proofs.lemmas.Bool.Decides.{Decides-eqb}
use Rattle.std.proofs.lemmas.List.Elements.{All-nil, All-cons, All-head, All-tail, All-append, Contains-get_or}
use Rattle.std.proofs.lemmas.Option.{get_or_from_slice_get, same_Some, slice_get_read}
use Rattle.pl_term.specs.Tree.{Chars}
use Rattle.pl_model.specs.Database.{current_procedures}
use Rattle.pl_model.specs.History.{History, Proc}
use Rattle.pl_model.specs.Requests as requests
use Rattle.pl_model.specs.declared.shows.Proc.{Proc as Shown}
use Rattle.pl_model.specs.laws.Shown.{proc_of}
use Rattle.std.proofs.lemmas.List.{length-map, map-append, map_more}
use Rattle.pl_model.specs.SharedState.{state_at}
use Rattle.atom_api.specs.Interns.{Holds}
use Rattle.atom_api.specs.Names.{Names}
use Rattle.world_api.specs.Texts.{or_no_text, text_of}
use Rattle.world_api.specs.Visits.{proc_named}
use Rattle.world_api.specs.declared.reply.Reply.TheVariants as replies
use Rattle.world_api.specs.declared.visit.Procedure.{Procedure}
use Rattle.counted_terms.specs.Keeping.{HoldsOn}
use Rattle.counted_terms.specs.Rows.{row_names}
use Rattle.counted_terms.specs.declared.row.Row.{Row}
use Rattle.counted_terms.specs.declared.row.Row.TheVariants.{Reads, Makes, Waits, NeedsAtoms, Retry, Worn, Memory}
use Rattle.hub_database.specs.Database.{databases}
use Rattle.hub_database.specs.Listing.{AsksOne, AsksSome, IsWithout, Lists}
use Rattle.hub_database.specs.Rows.{Tells}
use Rattle.hub_database.proofs.ChangedRows.{got_at}
use Rattle.hub_database.proofs.Heads.{text_is}
use Rattle.hub_database.proofs.Served.{all_listed}

-- AN ATOM MORE IS HELD
pub held_with : (m : Names) (t : Chars) (a : ℕ) (n : Names) → Holds m t a n → HoldsOn m n
held_with m t a n h k u e = ap (λ (f : Names). f k) h.now ∙ go (k == a) refl
  where
    go : (b : Bool) → (k == a) ≡ b → cond b (Some t) (m k) ≡ Some u
    go true d = ap (λ x. Some x) (sym (h.own u (ap m (sym ((Decides-eqb k a).0 d)) ∙ e)))
    go false d = e

pub held_there : (m : Names) (t : Chars) (a : ℕ) (n : Names) → Holds m t a n → n a ≡ Some t
held_there m t a n h = ap (λ (f : Names). f a) h.now ∙ ap (λ b. cond b (Some t) (m a)) ((Decides-eqb a a).1 refl)

-- what is held has the same text then
pub text_on : (m n : Names) → HoldsOn m n → (a : ℕ) → IsSome (m a) → text_of n a ≡ text_of m a
text_on m n on a held = go (m a) refl held
  where
    go : (o : Option Chars) → m a ≡ o → IsSome o → text_of n a ≡ or_no_text a o
    go None e some_ = absurd (false≢true some_)
    go (Some t) e some_ = ap (or_no_text a) (on a t e)

pub some_on : (m n : Names) → HoldsOn m n → (a : ℕ) → IsSome (m a) → IsSome (n a)
some_on m n on a held = go (m a) refl held
  where
    go : (o : Option Chars) → m a ≡ o → IsSome o → IsSome (n a)
    go None e some_ = absurd (false≢true some_)
    go (Some t) e some_ = subst (λ (o : Option Chars). IsSome o) (sym (on a t e)) refl

module _ (m n : Names) (on : HoldsOn m n) where
  pub named_on : (ps : List Procedure) → All (λ (p : Procedure). IsSome (m p.name)) ps → All (λ (p : Procedure). IsSome (n p.name)) ps
  named_on [] all = All-nil (λ (p : Procedure). IsSome (n p.name))
  named_on (p ∷ ps) all =
      All-cons (λ (p : Procedure). IsSome (n p.name)) p ps (some_on m n on p.name (All-head (λ (p : Procedure). IsSome (m p.name)) p ps all))
      (named_on ps (All-tail (λ (p : Procedure). IsSome (m p.name)) p ps all))

  pub same_on : (ps : List Procedure) → All (λ (p : Procedure). IsSome (m p.name)) ps → map (proc_named (text_of n)) ps ≡ map (proc_named (text_of m)) ps
  same_on [] all = refl
  same_on (p ∷ ps) all =
      ap₂ (λ (t : Chars) (l : List Proc). record { name = t; arity = p.arity } ∷ l) (text_on m n on p.name (All-head (λ (p : Procedure). IsSome (m p.name)) p ps all))
      (same_on ps (All-tail (λ (p : Procedure). IsSome (m p.name)) p ps all))

-- the names of the procedures
pub names_all : (n : Names) (ps : List Procedure) → All (λ (p : Procedure). IsSome (n p.name)) ps → All (λ a. IsSome (n a)) (map (λ (p : Procedure). p.name) ps)
names_all n [] all = All-nil (λ a. IsSome (n a))
names_all n (p ∷ ps) all =
    All-cons (λ a. IsSome (n a)) p.name (map (λ (p : Procedure). p.name) ps) (All-head (λ (p : Procedure). IsSome (n p.name)) p ps all)
    (names_all n ps (All-tail (λ (p : Procedure). IsSome (n p.name)) p ps all))

-- TEXTS THAT WERE ASKED
pub none_asked : (ps : List Proc) (old : List Chars) → AsksSome ps old old
none_asked ps old = record { more = []; asked = sym (append-nil old); each = All-nil (λ t. Contains (map (λ (p : Proc). p.name) ps) t) }

pub one_asked : (ps : List Proc) (old mid new : List Chars) (t : Chars) → Contains (map (λ (p : Proc). p.name) ps) t → AsksSome ps old mid → AsksOne t mid new → AsksSome ps old new
one_asked ps old mid new t has was (inl same) = record { more = was.more; asked = same ∙ was.asked; each = was.each }
one_asked ps old mid new t has was (inr more) = record {
  more = was.more ++ t ∷ [];
  asked = more ∙ (ap (λ l. l ++ t ∷ []) was.asked ∙ append_assoc old was.more (t ∷ []));
  each = All-append (λ u. Contains (map (λ (p : Proc). p.name) ps) u) was.more (t ∷ []) was.each (All-cons (λ u. Contains (map (λ (p : Proc). p.name) ps) u) t [] has (All-nil (λ u. Contains (map (λ (p : Proc). p.name) ps) u)));
}

-- a row without an atom names none, and lists nothing
pub without_named : (n : Names) (row : Row) → IsWithout row → All (λ a. IsSome (n a)) (row_names row)
without_named n (Reads r) is = absurd is
without_named n (Makes r) is = absurd is
without_named n (Waits on) is = absurd is
without_named n (NeedsAtoms p) is = All-nil (λ a. IsSome (n a))
without_named n (Retry c) is = All-nil (λ a. IsSome (n a))
without_named n (Worn w) is = All-nil (λ a. IsSome (n a))
without_named n Memory is = All-nil (λ a. IsSome (n a))

pub without_lists : (text : ℕ → Chars) (ps : List Proc) (row : Row) → IsWithout row → Lists text ps row
without_lists text ps (Reads r) is = absurd is
without_lists text ps (Makes r) is = absurd is
without_lists text ps (Waits on) is = absurd is
without_lists text ps (NeedsAtoms p) is = tt
without_lists text ps (Retry c) is = tt
without_lists text ps (Worn w) is = tt
without_lists text ps Memory is = tt

-- THE ANSWER
pub lists_tell : (goals e : ℕ) (h : History) (g : ℕ) (text : ℕ → Chars) → length h ≡ g → (ps : List Proc) → ps ≡ current_procedures g (databases goals h g) → (row : Row) → Lists text ps row → Tells goals e text requests.all_procedures h row
lists_tell goals e h g text at ps are (Reads (replies.Procedures v)) l = record {
  reply = requests.procedures (current_procedures (length h) (databases goals h (length h)));
  serves = all_listed e (state_at goals h (length h)) (length h);
  says = ap requests.procedures (ap (λ (n : ℕ). current_procedures n (databases goals h n)) at ∙ (sym are ∙ sym l));
}
lists_tell goals e h g text at ps are (Reads (replies.Standing ops quotes)) l = absurd l
lists_tell goals e h g text at ps are (Reads (replies.Clauses f)) l = absurd l
lists_tell goals e h g text at ps are (Reads (replies.Flags fs)) l = absurd l
lists_tell goals e h g text at ps are (Reads (replies.Operators os)) l = absurd l
lists_tell goals e h g text at ps are (Reads (replies.Named n)) l = absurd l
lists_tell goals e h g text at ps are (Reads (replies.Message t)) l = absurd l
lists_tell goals e h g text at ps are (Reads replies.NoMessage) l = absurd l
lists_tell goals e h g text at ps are (Reads (replies.Status t)) l = absurd l
lists_tell goals e h g text at ps are (Reads replies.Done) l = absurd l
lists_tell goals e h g text at ps are (Reads replies.Gone) l = absurd l
lists_tell goals e h g text at ps are (Reads (replies.Refused t)) l = absurd l
lists_tell goals e h g text at ps are (Makes r) l = absurd l
lists_tell goals e h g text at ps are (Waits on) l = absurd l
lists_tell goals e h g text at ps are (NeedsAtoms p) l = tt
lists_tell goals e h g text at ps are (Retry c) l = tt
lists_tell goals e h g text at ps are (Worn w) l = tt
lists_tell goals e h g text at ps are Memory l = tt

-- ONE PROCEDURE MORE, whose name is the atom
module _ (m n : Names) (on : HoldsOn m n) (found new : List Procedure) (all : All (λ (p : Procedure). IsSome (m p.name)) found) (a : ℕ) (x : Shown) (is : n a ≡ Some x.name)
    (more : new ≡ found ++ record { name = a; arity = x.arity } ∷ []) where
  pub named_more : All (λ (p : Procedure). IsSome (n p.name)) new
  named_more =
      subst (λ (l : List Procedure). All (λ (p : Procedure). IsSome (n p.name)) l) (sym more)
      (All-append (λ (p : Procedure). IsSome (n p.name)) found (record { name = a; arity = x.arity } ∷ []) (named_on m n on found all)
      (All-cons (λ (p : Procedure). IsSome (n p.name)) (record { name = a; arity = x.arity }) [] (subst (λ (o : Option Chars). IsSome o) (sym is) refl) (All-nil (λ (p : Procedure). IsSome (n p.name)))))

  pub lists_more : (ps : List Shown) (i : ℕ) → i < length ps → x ≡ get_or ps i x → map (proc_named (text_of m)) found ≡ map proc_of (take i ps) → map (proc_named (text_of n)) new ≡ map proc_of (take (i + 1) ps)
  lists_more ps i lt at so_far =
      ap (λ (l : List Procedure). map (proc_named (text_of n)) l) more
      ∙ map-append (proc_named (text_of n)) found (record { name = a; arity = x.arity } ∷ [])
      ∙ ap₂ (λ (l r : List Proc). l ++ r) (same_on m n on found all ∙ so_far) (ap (λ (t : Chars). record { name = t; arity = x.arity } ∷ []) (text_is n a x.name is) ∙ ap (λ (z : Shown). proc_of z ∷ []) at)
      ∙ sym (map_more proc_of ps i x lt)

-- the name of a procedure is one of the names
pub name_among : (ps : List Shown) (i : ℕ) (x : Shown) → i < length ps → x ≡ get_or ps i x → Contains (map (λ (p : Proc). p.name) (map proc_of ps)) x.name
name_among ps i x lt at =
    let all = map (λ (p : Proc). p.name) (map proc_of ps) in
    let got : slice_get all i ≡ Some x.name = got_at (λ (p : Proc). p.name) (map proc_of ps) i (proc_of x) (got_at proc_of ps i x (slice_get_read ps (length ps) i x refl lt at)) in
    subst (λ (t : Chars). Contains all t) (get_or_from_slice_get all i x.name x.name got) (Contains-get_or all i x.name (omega (arith, lt, length-map (map proc_of ps) (λ (p : Proc). p.name), length-map ps proc_of)))

-- what stands at an index is one
pub same_at : (ps : List Shown) (i : ℕ) (x y : Shown) → i < length ps → x ≡ get_or ps i x → y ≡ get_or ps i y → x ≡ y
same_at ps i x y lt a b = same_Some x y (sym (slice_get_read ps (length ps) i x refl lt a) ∙ slice_get_read ps (length ps) i y refl lt b)
