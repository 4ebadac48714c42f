use Rattle.std.proofs.Common.{◌≡◌, ◌≢◌, ◌<◌, ◌≤◌, ℕ, List, length, sym, ap, ◌∙◌, subst, Some, Option}
use Rattle.std.proofs.Math.ListN.{set}
use Rattle.std.specs.Prelude.{encode_utf8_all, bytes_eq, string_bytes}
use Rattle.std.specs.HashMap.{get_by_text}
use Rattle.std.specs.Map.{update}
use Rattle.std.proofs.lemmas.List.{length-set}
use Rattle.std.proofs.lemmas.Map.Text.{hash_map_updates_text}
use Rattle.atom_api.specs.Names.{Names, with_name}
use Rattle.atom_api.specs.Slots.{names_of, Indexed, Fitting}
use Rattle.atom_api.proofs.SlotNames.{names-put, indexed-put, fitting-put}
use Rattle.atom_api.proofs.slots.Slots.put.Goals as goal

put_there : (xs : List (Option (List ℕ))) (slot : ℕ) (copy t : List ℕ) → slot < length xs → copy ≡ t → names_of (set xs slot (Some copy)) ≡ with_name (names_of xs) slot t
put_there xs slot copy t l e = ap (λ (u : List ℕ). names_of (set xs slot (Some u))) e ∙ names-put xs slot t l

pub invariant_of-self-2-clause-indexed : goal.invariant_of-self-2-clause-indexed
invariant_of-self-2-clause-indexed c =
    let bytes : string_bytes c.in_ok-key.key ≡ encode_utf8_all c.args.text.now = c.in_ok-key.ensures.ok ∙ c.as_str.ensures in
    let found : (cs : List ℕ) → get_by_text c.insert.new.self cs ≡ update bytes_eq (get_by_text c.spare.new.self.numbers) (encode_utf8_all c.args.text.now) (Some c.in_ok-slot.slot) cs =
    rw bytes at (hash_map_updates_text (string_bytes c.in_ok-key.key) c.spare.new.self.numbers c.insert.new.self (Some c.in_ok-slot.slot) c.in_ok-insert.ensures.updates) in
    let absent : (k : ℕ) → names_of c.spare.new.self.texts.items k ≢ Some c.args.text.now =
    λ k e. c.requires.absent k (ap (λ (m : Names). m k) (sym c.spare.ensures.same) ∙ e) in
    subst (λ (m : Names). Indexed (λ b. get_by_text c.insert.new.self b) m) (sym (put_there c.spare.new.self.texts.items c.in_ok-slot.slot c.in_ok-copy.copy c.args.text.now c.in_ok-slot.ensures.free.0 c.in_ok-copy.ensures))
    (indexed-put (λ b. get_by_text c.spare.new.self.numbers b) (λ b. get_by_text c.insert.new.self b) (names_of c.spare.new.self.texts.items) c.in_ok-slot.slot c.args.text.now c.spare.new.self.indexed c.in_ok-slot.ensures.free.2 absent found)

pub invariant_of-self-2-clause-fitting : goal.invariant_of-self-2-clause-fitting
invariant_of-self-2-clause-fitting c =
    subst (λ (m : Names). Fitting m) (sym (put_there c.spare.new.self.texts.items c.in_ok-slot.slot c.in_ok-copy.copy c.args.text.now c.in_ok-slot.ensures.free.0 c.in_ok-copy.ensures))
    (fitting-put (names_of c.spare.new.self.texts.items) c.in_ok-slot.slot c.args.text.now c.spare.new.self.fitting c.requires.fits c.scalars.ensures)

pub invariant_of-self-2-clause-room : goal.invariant_of-self-2-clause-room
invariant_of-self-2-clause-room c = subst (λ (n : ℕ). n ≤ length c.spare.new.self.marks.items) (sym (length-set c.spare.new.self.texts.items c.in_ok-slot.slot (Some c.in_ok-copy.copy))) c.spare.new.self.room

pub returns-clause-free : goal.returns-clause-free
returns-clause-free c =
    (c.in_ok-slot.ensures.near, ap (λ (m : Names). m c.in_ok-slot.slot) (sym c.spare.ensures.same) ∙ c.in_ok-slot.ensures.free.2)

pub returns-clause-put : goal.returns-clause-put
returns-clause-put c =
    put_there c.spare.new.self.texts.items c.in_ok-slot.slot c.in_ok-copy.copy c.args.text.now c.in_ok-slot.ensures.free.0 c.in_ok-copy.ensures
    ∙ ap (λ (m : Names). with_name m c.in_ok-slot.slot c.args.text.now) c.spare.ensures.same
