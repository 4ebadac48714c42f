-- Goals that only have further tasks done.
use Rattle.std.proofs.Common.{◌≡◌, refl, sym, true}
use Rattle.std.proofs.lemmas.Bool.{true≢false}
use Rattle.term_store.specs.declared.words.Place.{Place}
use Rattle.iso_search.specs.declared.construct.Construct.{Construct}
use Rattle.iso_search.specs.declared.construct.Construct.TheVariants.{Succeeds, Cuts, Conjunction, Disjunction, IfThen, IfThenElse, Fails, Repeats, Calls, NotProvable, Once, Catches, Throws, FindsAll, Halts, HaltsWithZero, Exits, Inspects, Retracts, Clears, Writes, WritesQuoted, WritesCanonical, WritesNewline, Puts, Other}
use Rattle.iso_engine.specs.Calling.{is_passing_kind}

pub passing_alone : (k : Construct) → is_passing_kind k ≡ true → (k ≡ Succeeds → ⊥) → (k ≡ Cuts → ⊥) → ((g h : Place) → k ≡ Conjunction g h → ⊥) → ⊥
passing_alone Succeeds is s u x = s refl
passing_alone Cuts is s u x = u refl
passing_alone (Conjunction a b) is s u x = x a b refl
passing_alone (Disjunction a b) is s u x = true≢false (sym is)
passing_alone (IfThen a b) is s u x = true≢false (sym is)
passing_alone (IfThenElse a b c) is s u x = true≢false (sym is)
passing_alone Fails is s u x = true≢false (sym is)
passing_alone Repeats is s u x = true≢false (sym is)
passing_alone (Calls a b) is s u x = true≢false (sym is)
passing_alone (NotProvable a) is s u x = true≢false (sym is)
passing_alone (Once a) is s u x = true≢false (sym is)
passing_alone (Catches a b c) is s u x = true≢false (sym is)
passing_alone (Throws a) is s u x = true≢false (sym is)
passing_alone (FindsAll a b c) is s u x = true≢false (sym is)
passing_alone (Halts a) is s u x = true≢false (sym is)
passing_alone HaltsWithZero is s u x = true≢false (sym is)
passing_alone (Exits a) is s u x = true≢false (sym is)
passing_alone (Inspects a b) is s u x = true≢false (sym is)
passing_alone (Retracts a) is s u x = true≢false (sym is)
passing_alone (Clears a) is s u x = true≢false (sym is)
passing_alone (Writes a) is s u x = true≢false (sym is)
passing_alone (WritesQuoted a) is s u x = true≢false (sym is)
passing_alone (WritesCanonical a) is s u x = true≢false (sym is)
passing_alone WritesNewline is s u x = true≢false (sym is)
passing_alone (Puts a) is s u x = true≢false (sym is)
passing_alone Other is s u x = true≢false (sym is)
