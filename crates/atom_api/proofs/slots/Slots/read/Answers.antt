use Rattle.std.proofs.Common.{◌≡◌, ◌<◌, length, sym, ap, ◌∙◌, arith, Some, None}
use Rattle.std.specs.Str.{chars}
use Rattle.std.specs.Option.{is_some}
use Rattle.std.proofs.lemmas.Bool.{true≢false}
use Rattle.std.proofs.lemmas.Str.{chars-encodes}
use Rattle.atom_api.specs.Slots.{names_of}
use Rattle.atom_api.proofs.SlotNames.{names-at, names-inside}
use Rattle.atom_api.proofs.slots.Slots.read.Goals as goal

pub index-requires : goal.index-requires
index-requires c =
    let inside : c.args.slot < length c.args.self.now.texts.items = names-inside c.args.self.now.texts.items c.args.slot c.requires in
    omega (arith, c.args.self.now.texts.ok)

pub put-requires : goal.put-requires
put-requires c =
    let full : names_of c.args.self.now.texts.items c.args.slot ≡ Some c.in-Some.text =
    names-at c.args.self.now.texts.items c.args.slot c.index.result.now (names-inside c.args.self.now.texts.items c.args.slot c.requires) c.index.ensures ∙ c.in-Some.is in
    rw c.as_str.ensures (c.args.self.now.fitting c.args.slot c.in-Some.text full).0

pub returns-in-Some : goal.returns-in-Some
returns-in-Some c =
    let full : names_of c.args.self.now.texts.items c.args.slot ≡ Some c.in-Some.text =
    names-at c.args.self.now.texts.items c.args.slot c.index.result.now (names-inside c.args.self.now.texts.items c.args.slot c.requires) c.index.ensures ∙ c.in-Some.is in
    full
    ∙ ap Some (sym (c.put.ensures ∙ ap chars c.as_str.ensures ∙ chars-encodes c.in-Some.text (c.args.self.now.fitting c.args.slot c.in-Some.text full).1))

pub returns-in_default : goal.returns-in_default
returns-in_default c =
    let empty : names_of c.args.self.now.texts.items c.args.slot ≡ None =
    names-at c.args.self.now.texts.items c.args.slot c.index.result.now (names-inside c.args.self.now.texts.items c.args.slot c.requires) c.index.ensures ∙ c.in_default.is in
    absurd (true≢false (sym c.requires ∙ ap is_some empty))
