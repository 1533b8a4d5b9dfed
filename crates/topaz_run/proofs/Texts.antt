-- The texts of an accepted configuration are texts of Rust.
use Rattle.std.proofs.Common.{◌≡◌, ℕ, zero, suc, ◌<◌, Bool, true, ◌&&◌, List, [], ◌∷◌, length, slice_index_or, arith}
use Rattle.std.specs.Prelude.{nat_le}
use Rattle.std.specs.List.{list_all}
use Rattle.std.specs.Str.{IsUtf8, IsAscii}
use Rattle.std.proofs.lemmas.Bool.{and_parts, leb-true}
use Rattle.std.proofs.lemmas.Str.{IsUtf8-from_ascii}
use Rattle.hv_config.specs.declared.config.PartDef.{PartDef}
use Rattle.hv_config.specs.declared.config.Config.{Config}
use Rattle.hv_config.specs.Plain.{is_plain_part}
use Rattle.dt_model.specs.Value.{is_printable, is_text}
use Rattle.config_rules.specs.Accepted.{IsAccepted}

printable-ascii : (bytes : List ℕ) → list_all is_printable bytes ≡ true → IsAscii bytes
printable-ascii [] e i = omega arith
printable-ascii (byte ∷ bytes) e zero =
    let here = and_parts (is_printable byte) (list_all is_printable bytes) e in
    omega (arith, leb-true byte 0x7e (and_parts (nat_le 0x20 byte) (nat_le byte 0x7e) here.0).1)
printable-ascii (byte ∷ bytes) e (suc i) = printable-ascii bytes (and_parts (is_printable byte) (list_all is_printable bytes) e).1 i

pub text_utf8 : (text : List ℕ) → is_text text ≡ true → IsUtf8 text
text_utf8 text e = IsUtf8-from_ascii text (printable-ascii text (and_parts (nat_le 1 (length text) && nat_le (length text) 255) (list_all is_printable text) e).1)

-- what all elements pass one passes
pub all_at : {X : Type 0} (p : X → Bool) (xs : List X) (i : ℕ) (d : X) → list_all p xs ≡ true → i < length xs → p (slice_index_or xs i d) ≡ true
all_at p [] i d e few = absurd (omega (arith, few))
all_at p (x ∷ xs) zero d e few = (and_parts (p x) (list_all p xs) e).0
all_at p (x ∷ xs) (suc i) d e few = all_at p xs i d (and_parts (p x) (list_all p xs) e).1 (omega (arith, few))

image-text : (part : PartDef) → is_plain_part part ≡ true → is_text part.image ≡ true
image-text part e =
    let a = and_parts _ (list_all _ part.handles) e in
    let b = and_parts _ _ a.0 in
    let c = and_parts _ _ b.0 in
    let d = and_parts _ _ c.0 in
    let f = and_parts _ _ d.0 in
    (and_parts _ (is_text part.image) f.0).1

pub image_utf8 : (config : Config) → IsAccepted config → (i : ℕ) (d : PartDef) → i < length config.parts → IsUtf8 (slice_index_or config.parts i d).image
image_utf8 config accepted i d few =
    let part = slice_index_or config.parts i d in
    text_utf8 part.image (image-text part (all_at is_plain_part config.parts i d accepted.plain.plain_parts few))
