-- What joined descriptions and their wiring are.
use Rattle.std.proofs.Common.{◌≡◌, true, List}
use Rattle.std.specs.List.{list_all}
use Rattle.std.proofs.lemmas.Bool.{and_parts}
use Rattle.machine_desc.specs.declared.desc.Desc.{Desc}
use Rattle.machine_desc.specs.declared.wiring.Wiring.{Wiring}
use Rattle.machine_desc.specs.Sound.{is_sound}
use Rattle.machine_desc.specs.Joined.{AreJoined, are_joined, are_cores_apart, are_extents_sound, are_regions_joined, are_links_joined, are_bells_joined, are_managers_joined, are_ports_joined}

pub record Joins (descs : List Desc) (wiring : Wiring) : Type 0 where
  pub sound : list_all is_sound descs ≡ true
  pub extents : are_extents_sound wiring ≡ true
  pub regions : are_regions_joined descs wiring ≡ true

pub joins : (descs : List Desc) (wiring : Wiring) → AreJoined descs wiring → Joins descs wiring
unfolding are_joined
joins descs wiring e =
    let a = and_parts _ (are_ports_joined descs wiring) e in
    let b = and_parts _ (are_managers_joined descs wiring) a.0 in
    let c = and_parts _ (are_bells_joined descs wiring) b.0 in
    let d = and_parts _ (are_links_joined descs wiring) c.0 in
    let f = and_parts _ (are_regions_joined descs wiring) d.0 in
    let g = and_parts _ (are_extents_sound wiring) f.0 in
    let h = and_parts _ (are_cores_apart descs) g.0 in
    record { sound = (and_parts _ (list_all is_sound descs) h.0).1; extents = g.1; regions = f.1 }
