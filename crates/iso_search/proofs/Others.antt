-- What is no control construct.
use Rattle.std.proofs.Common.{◌≡◌, Option, Some, None, IfNone, refl}
use Rattle.term_store.specs.declared.words.Place.{Place}
use Rattle.iso_search.specs.declared.construct.Construct.{Construct}
use Rattle.iso_search.specs.declared.construct.Construct.TheVariants.{Succeeds, Cuts, Conjunction, Disjunction, IfThen, IfThenElse, Fails, Repeats, Calls, NotProvable, Once, Catches, Throws, FindsAll, Halts, HaltsWithZero, Exits, Inspects, Retracts, Clears, Writes, WritesQuoted, WritesCanonical, WritesNewline, Puts, Other}
use Rattle.iso_search.specs.declared.outcome.Outcome.{Outcome}
use Rattle.iso_search.specs.declared.search.Search.{Search}
use Rattle.iso_search.specs.Goals.{IsLeft, IsUncounted}

none_left : (k : Construct) → (k ≡ Succeeds → ⊥)
    → (k ≡ Cuts → ⊥)
    → ((t u : Place) → k ≡ Conjunction t u → ⊥)
    → ((t u : Place) → k ≡ Disjunction t u → ⊥)
    → ((t u : Place) → k ≡ IfThen t u → ⊥)
    → ((t u w : Place) → k ≡ IfThenElse t u w → ⊥)
    → IsUncounted k → IsLeft k
none_left Succeeds succeeds cuts both either condition branches h = absurd (succeeds refl)
none_left Cuts succeeds cuts both either condition branches h = absurd (cuts refl)
none_left (Conjunction t u) succeeds cuts both either condition branches h = absurd (both t u refl)
none_left (Disjunction t u) succeeds cuts both either condition branches h = absurd (either t u refl)
none_left (IfThen c t) succeeds cuts both either condition branches h = absurd (condition c t refl)
none_left (IfThenElse c t u) succeeds cuts both either condition branches h = absurd (branches c t u refl)
none_left Fails succeeds cuts both either condition branches h = h
none_left Repeats succeeds cuts both either condition branches h = h
none_left (Calls t a) succeeds cuts both either condition branches h = h
none_left (NotProvable t) succeeds cuts both either condition branches h = h
none_left (Once t) succeeds cuts both either condition branches h = h
none_left (Catches t c r) succeeds cuts both either condition branches h = h
none_left (Throws t) succeeds cuts both either condition branches h = h
none_left (FindsAll x t l) succeeds cuts both either condition branches h = h
none_left (Halts t) succeeds cuts both either condition branches h = h
none_left HaltsWithZero succeeds cuts both either condition branches h = h
none_left (Exits t) succeeds cuts both either condition branches h = h
none_left (Inspects g b) succeeds cuts both either condition branches h = h
none_left (Retracts t) succeeds cuts both either condition branches h = h
none_left (Clears t) succeeds cuts both either condition branches h = h
none_left (Writes t) succeeds cuts both either condition branches h = h
none_left (WritesQuoted t) succeeds cuts both either condition branches h = h
none_left (WritesCanonical t) succeeds cuts both either condition branches h = h
none_left WritesNewline succeeds cuts both either condition branches h = h
none_left (Puts t) succeeds cuts both either condition branches h = h
none_left Other succeeds cuts both either condition branches h = h

-- Where nothing came of a construct, it is none.
pub left_over : (e d : Search) (a : Option Outcome) (k : Construct) → (k ≡ Succeeds → ⊥)
    → (k ≡ Cuts → ⊥)
    → ((t u : Place) → k ≡ Conjunction t u → ⊥)
    → ((t u : Place) → k ≡ Disjunction t u → ⊥)
    → ((t u : Place) → k ≡ IfThen t u → ⊥)
    → ((t u w : Place) → k ≡ IfThenElse t u w → ⊥)
    → IfNone a ((d ≡ e) × IsUncounted k) → IfNone a ((d ≡ e) × IsLeft k)
left_over e d None k succeeds cuts both either condition branches h = (h.0, none_left k succeeds cuts both either condition branches h.1)
left_over e d (Some o) k succeeds cuts both either condition branches h = h
