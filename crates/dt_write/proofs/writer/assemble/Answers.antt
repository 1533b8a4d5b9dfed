use Rattle.std.proofs.Common.{◌≡◌, ◌+◌, ◌*◌, ◌++◌, List, ℕ, length, refl, ap, ◌∙◌, arith}
use Rattle.dt_model.specs.Canonical.{strings_of, reserve_map_of}
use Rattle.dt_write.proofs.Whole.{length-blob, length-reserve_map, blocks_appended}
use Rattle.dt_write.proofs.writer.assemble.Goals as goal

pub returns-clause-blob : goal.returns-clause-blob
returns-clause-blob c =
    let strings_is = c.strings_len-strings_size.ensures.size ∙ ap (λ (ns : List (List ℕ)). length (strings_of ns)) c.names.ensures in
    blocks_appended c.args.boot_cpu c.args.entries.now c.args.layout.now.structure (strings_of c.args.layout.now.names)
    c.new-blob.result.items c.push_header.new.out.items c.push_reserve_map.new.out.items c.extend_from_slice.new.self.items c.push_strings.new.out.items
    (16 * (length c.args.entries.now + 1)) (length c.structure-structure.result.now) c.strings_len-strings_size.result
    refl (ap length c.structure-structure.ensures) strings_is c.new-blob.ensures.items c.in_ok-push_header.ensures c.in_ok-push_reserve_map.ensures
    (c.in_ok-extend_from_slice.ensures.items ∙ ap (λ (l : List ℕ). c.push_reserve_map.new.out.items ++ l) c.structure-structure.ensures)
    (c.in_ok-push_strings.ensures ∙ ap (λ (ns : List (List ℕ)). c.extend_from_slice.new.self.items ++ strings_of ns) c.names-2.ensures)

pub returns-clause-limit : goal.returns-clause-limit
returns-clause-limit c =
    let strings_is : c.strings_len-strings_size.result ≡ length (strings_of c.args.layout.now.names) =
    c.strings_len-strings_size.ensures.size ∙ ap (λ (ns : List (List ℕ)). length (strings_of ns)) c.names.ensures in
    let structure_is = ap length c.structure-structure.ensures in
    let fits = c.if-is_too_large.ensures.fits in
    let whole = ap length (returns-clause-blob c) in
    omega (
      arith,
      length-blob c.args.boot_cpu (reserve_map_of c.args.entries.now) c.args.layout.now.structure (strings_of c.args.layout.now.names),
      length-reserve_map c.args.entries.now,
    )

pub returns-then-is_too_large-clause-too_large : goal.returns-then-is_too_large-clause-too_large
returns-then-is_too_large-clause-too_large c = λ is.
    let strings_is : c.strings_len-strings_size.result ≡ length (strings_of c.args.layout.now.names) =
    c.strings_len-strings_size.ensures.size ∙ ap (λ (ns : List (List ℕ)). length (strings_of ns)) c.names.ensures in
    let structure_is = ap length c.structure-structure.ensures in
    let large = c.if-is_too_large.ensures.large in
    omega (
      arith,
      length-blob c.args.boot_cpu (reserve_map_of c.args.entries.now) c.args.layout.now.structure (strings_of c.args.layout.now.names),
      length-reserve_map c.args.entries.now,
    )
