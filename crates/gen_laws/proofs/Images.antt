-- The images of 2 to 8 partitions break none of the rules I1 to I7.
use Rattle.std.proofs.Common.{◌≡◌, ℕ, zero, suc, ◌+◌, ◌/◌, ◌%◌, ◌^◌, ◌<◌, ◌≤◌, Bool, true, false, List, [], ◌∷◌, length, drop, get_or, Option, Some, None, refl, sym, ap, ◌∙◌, arith}
use Rattle.std.specs.Prelude.{is_none}
use Rattle.std.specs.Option.{option_or}
use Rattle.std.specs.List.{list_all}
use Rattle.std.proofs.lemmas.Bool.{ltb-true}
use Rattle.std.proofs.lemmas.List.FromFn.{length-map-range_with_len, get_or-map-range_with_len}
use Rattle.outside.specs.declared.named_file.NamedFile.{NamedFile}
use Rattle.hv_config.specs.declared.config.PartDef.{PartDef}
use Rattle.hv_config.specs.declared.config.Config.{Config}
use Rattle.config_descs.specs.Desc.{desc_of}
use Rattle.guest_tree.specs.Guest.{guest_blob}
use Rattle.guest_tree.proofs.Guests.{all-there}
use Rattle.elf_image.specs.Header.{is_elf, is_packed, is_no_image}
use Rattle.elf_image.specs.Image.{first_fault as file_fault, raw_image, image_of as image_in}
use Rattle.fresh_load.specs.Described.{first_fault}
use Rattle.gen_load.specs.Draws.{count_of, starts_of}
use Rattle.gen_load.specs.Meant.{generated_config, part}
use Rattle.gen_load.specs.Files.{image_of, image_file, images_from, images_of}
use Rattle.gen_load.specs.Laws.{CountsAreFew, are_below}
use Rattle.gen_load.proofs.Drawing.{starts-small}
use Rattle.gen_laws.specs.Laws.{image_fault, IsImageFor, AreImagesFor}
use Rattle.gen_laws.proofs.Compute.{loading}

-- ---- any image

-- a file that begins with this byte is neither an ELF file nor a packed one
plain_file : (rest : List ℕ) → (is_elf (0x39 ∷ rest) ≡ false) × (is_no_image (0x39 ∷ rest) ≡ false)
unfolding is_elf is_packed
plain_file rest = (refl, refl)

first_byte : (start : ℕ) → start < 32768 → (0x39C00000 + start) / 2 ^ 24 % 256 ≡ 0x39
first_byte start low = omega arith

begins : (start : ℕ) → start < 32768 → image_of start ≡ 0x39 ∷ drop 1 (image_of start)
begins start low = ap (λ byte. byte ∷ drop 1 (image_of start)) (first_byte start low)

length-image : (start : ℕ) → length (image_of start) ≡ 84
length-image start = refl

-- such a file breaks no rule of files, and is loaded as it is
raw : (file : List ℕ) (at : ℕ) → is_elf file ≡ false → is_no_image file ≡ false → (file_fault file ≡ None) × (image_in file at ≡ raw_image (length file) at)
unfolding file_fault image_in
raw file at elf bad = (rw (bad, elf) refl, rw elf refl)

raw-image : (start at : ℕ) → start < 32768 → (file_fault (image_of start) ≡ None) × (image_in (image_of start) at ≡ raw_image 84 at)
raw-image start at low =
    let rest = drop 1 (image_of start) in
    let plain = plain_file rest in
    let is = begins start low in
    let both = raw (image_of start) at (ap is_elf is ∙ plain.0) (ap is_no_image is ∙ plain.1) in
    (both.0, both.1 ∙ ap (λ size. raw_image size at) (length-image start))

-- ---- the partitions

-- an image of that size can be loaded into the partition
abbrev is_loaded : Config → PartDef → Bool
is_loaded config part = is_none (first_fault (desc_of config part) (raw_image 84 part.image_at) (guest_blob config part))

at-2 : list_all (is_loaded (generated_config 2)) (generated_config 2).parts ≡ true
unfolding loading
at-2 = refl

at-3 : list_all (is_loaded (generated_config 3)) (generated_config 3).parts ≡ true
unfolding loading
at-3 = refl

at-4 : list_all (is_loaded (generated_config 4)) (generated_config 4).parts ≡ true
unfolding loading
at-4 = refl

at-5 : list_all (is_loaded (generated_config 5)) (generated_config 5).parts ≡ true
unfolding loading
at-5 = refl

at-6 : list_all (is_loaded (generated_config 6)) (generated_config 6).parts ≡ true
unfolding loading
at-6 = refl

at-7 : list_all (is_loaded (generated_config 7)) (generated_config 7).parts ≡ true
unfolding loading
at-7 = refl

at-8 : list_all (is_loaded (generated_config 8)) (generated_config 8).parts ≡ true
unfolding loading
at-8 = refl

-- ---- each

pub loaded-at : (count : ℕ) → 2 ≤ count → count ≤ 8 → list_all (is_loaded (generated_config count)) (generated_config count).parts ≡ true
loaded-at zero some few = absurd (omega arith)
loaded-at (suc zero) some few = absurd (omega arith)
loaded-at (suc (suc zero)) some few = at-2
loaded-at (suc (suc (suc zero))) some few = at-3
loaded-at (suc (suc (suc (suc zero)))) some few = at-4
loaded-at (suc (suc (suc (suc (suc zero))))) some few = at-5
loaded-at (suc (suc (suc (suc (suc (suc zero)))))) some few = at-6
loaded-at (suc (suc (suc (suc (suc (suc (suc zero))))))) some few = at-7
loaded-at (suc (suc (suc (suc (suc (suc (suc (suc zero)))))))) some few = at-8
loaded-at (suc (suc (suc (suc (suc (suc (suc (suc (suc n))))))))) some few = absurd (omega arith)

-- ---- the files

length-images : (place : ℕ) (starts : List ℕ) → length (images_from place starts) ≡ length starts
length-images place [] = refl
length-images place (start ∷ starts) = ap suc (length-images (place + 1) starts)

image-there : (first : ℕ) (starts : List ℕ) (place : ℕ) (f : NamedFile) → place < length starts → get_or (images_from first starts) place f ≡ image_file (first + place) (get_or starts place 0)
image-there first [] place f low = absurd (omega arith)
image-there first (start ∷ starts) zero f low = ap (λ n. image_file n start) (omega arith)
image-there first (start ∷ starts) (suc place) f low =
    image-there (first + 1) starts place f (omega arith) ∙ ap (λ n. image_file n (get_or starts place 0)) (omega arith)

length-parts : (count : ℕ) → length (generated_config count).parts ≡ count
unfolding generated_config
length-parts count = length-map-range_with_len (part count) 0 count

part-there : (count place : ℕ) (p : PartDef) → place < count → get_or (generated_config count).parts place p ≡ part count place
unfolding generated_config
part-there count place p low = get_or-map-range_with_len (part count) 0 count place place p low (omega arith)

none-there : {X : Type 0} (o : Option X) → is_none o ≡ true → o ≡ None
none-there None e = refl
none-there (Some x) e = absurd cc

part-faultless : (config : Config) (part : PartDef) (start : ℕ) → start < 32768 → is_loaded config part ≡ true → image_fault config part (image_of start) ≡ None
part-faultless config part start low loaded =
    let both = raw-image start part.image_at low in
    (λ i. option_or (both.0 i) (first_fault (desc_of config part) (both.1 i) (guest_blob config part))) ∙ none-there _ loaded

image-for : (count : ℕ) (starts : List ℕ) (place : ℕ) → length starts ≡ count → list_all (are_below 32768) starts ≡ true
    → list_all (is_loaded (generated_config count)) (generated_config count).parts ≡ true → place < count → (p : PartDef) (f : NamedFile)
    → IsImageFor (generated_config count) (get_or (generated_config count).parts place p) (get_or (images_from 0 starts) place f)
image-for count starts place many small loaded low p f =
    let config = generated_config count in
    let within : place < length starts = omega arith in
    let here : place < length config.parts = omega (arith, length-parts count) in
    let start = get_or starts place 0 in
    let file : get_or (images_from 0 starts) place f ≡ image_file place start = image-there 0 starts place f within ∙ ap (λ n. image_file n start) (omega arith) in
    let is = part-there count place p low in
    let low_start : start < 32768 = ltb-true start 32768 (all-there (are_below 32768) starts place 0 small within) in
    record {
      size = ap (λ (x : NamedFile). length x.bytes) file ∙ length-image start;
      name = ap (λ (x : NamedFile). x.name) file ∙ sym (ap (λ (x : PartDef). x.image) is);
      rules = ap (λ (x : NamedFile). image_fault config (get_or config.parts place p) x.bytes) file
          ∙ part-faultless config (get_or config.parts place p) start low_start (all-there (is_loaded config) config.parts place p loaded here);
    }

pub images : CountsAreFew → (number : ℕ) → AreImagesFor (generated_config (count_of number)) (images_of number)
unfolding images_of
images law number =
    let count = count_of number in
    let starts = starts-small number in
    record {
      many = length-images 0 (starts_of number) ∙ starts.0 ∙ sym (length-parts count);
      each = λ place low p f.
          let here : place < count = omega (arith, length-parts count) in
          image-for count (starts_of number) place starts.0 starts.1 (loaded-at count (law number).0 (law number).1) here p f;
    }
