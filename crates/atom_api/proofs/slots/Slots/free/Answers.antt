use Rattle.std.proofs.Common.{◌≡◌, ◌<◌, ◌≤◌, ℕ, List, length, sym, ap, ◌∙◌, subst, Some, None, Option}
use Rattle.std.proofs.Math.ListN.{set}
use Rattle.std.specs.Prelude.{encode_utf8_all, bytes_eq}
use Rattle.std.specs.HashMap.{get_by_text}
use Rattle.std.specs.Map.{update}
use Rattle.std.proofs.lemmas.List.{length-set}
use Rattle.std.proofs.lemmas.Map.Text.{hash_map_updates_text}
use Rattle.atom_api.specs.Names.{Names}
use Rattle.atom_api.specs.Slots.{names_of, Indexed, Fitting, without}
use Rattle.atom_api.proofs.SlotNames.{names-at, names-free, without_free, indexed-free, fitting-free}
use Rattle.atom_api.proofs.slots.Slots.free.Goals as goal

freed : (xs : List (Option (List ℕ))) (slot : ℕ) (o : Option (List ℕ)) → slot < length xs → o ≡ None → names_of (set xs slot o) ≡ without (names_of xs) slot
freed xs slot o l e = ap (λ (p : Option (List ℕ)). names_of (set xs slot p)) e ∙ names-free xs slot l

pub invariant_of-self-clause-indexed : goal.invariant_of-self-clause-indexed
invariant_of-self-clause-indexed c =
    let full : names_of c.args.self.now.texts.items c.args.slot ≡ Some c.in-Some.text =
    names-at c.args.self.now.texts.items c.args.slot c.index_mut.result.now c.requires c.index_mut.ensures.value ∙ sym c.take.ensures.value ∙ c.in-Some.is in
    let found : (cs : List ℕ) → get_by_text c.remove.new.self cs ≡ update bytes_eq (get_by_text c.args.self.now.numbers) (encode_utf8_all c.in-Some.text) None cs =
    rw c.as_str.ensures at (hash_map_updates_text c.as_str.result.now c.args.self.now.numbers c.remove.new.self None c.remove.ensures.updates) in
    subst (λ (m : Names). Indexed (λ bytes. get_by_text c.remove.new.self bytes) m) (sym (freed c.args.self.now.texts.items c.args.slot c.take.new.self c.requires c.take.ensures.after))
    (indexed-free (λ bytes. get_by_text c.args.self.now.numbers bytes) (λ bytes. get_by_text c.remove.new.self bytes) (names_of c.args.self.now.texts.items) c.args.slot c.in-Some.text c.args.self.now.indexed full found)

pub invariant_of-self-clause-fitting : goal.invariant_of-self-clause-fitting
invariant_of-self-clause-fitting c =
    subst (λ (m : Names). Fitting m) (sym (freed c.args.self.now.texts.items c.args.slot c.take.new.self c.requires c.take.ensures.after)) (fitting-free (names_of c.args.self.now.texts.items) c.args.slot c.args.self.now.fitting)

pub invariant_of-self-clause-room : goal.invariant_of-self-clause-room
invariant_of-self-clause-room c = subst (λ (n : ℕ). n ≤ length c.args.self.now.marks.items) (sym (length-set c.args.self.now.texts.items c.args.slot c.take.new.self)) c.args.self.now.room

pub invariant_of-self-in_default-clause-indexed : goal.invariant_of-self-in_default-clause-indexed
invariant_of-self-in_default-clause-indexed c =
    let empty : names_of c.args.self.now.texts.items c.args.slot ≡ None =
    names-at c.args.self.now.texts.items c.args.slot c.index_mut.result.now c.requires c.index_mut.ensures.value ∙ sym c.take.ensures.value ∙ c.in_default.is in
    subst (λ (m : Names). Indexed (λ bytes. get_by_text c.args.self.now.numbers bytes) m) (sym (freed c.args.self.now.texts.items c.args.slot c.take.new.self c.requires c.take.ensures.after ∙ without_free (names_of c.args.self.now.texts.items) c.args.slot empty)) c.args.self.now.indexed

pub invariant_of-self-in_default-clause-fitting : goal.invariant_of-self-in_default-clause-fitting
invariant_of-self-in_default-clause-fitting c =
    subst (λ (m : Names). Fitting m) (sym (freed c.args.self.now.texts.items c.args.slot c.take.new.self c.requires c.take.ensures.after)) (fitting-free (names_of c.args.self.now.texts.items) c.args.slot c.args.self.now.fitting)

pub invariant_of-self-in_default-clause-room : goal.invariant_of-self-in_default-clause-room
invariant_of-self-in_default-clause-room c = subst (λ (n : ℕ). n ≤ length c.args.self.now.marks.items) (sym (length-set c.args.self.now.texts.items c.args.slot c.take.new.self)) c.args.self.now.room
