-- The trees of a bundle, from their tokens.
use Rattle.std.proofs.Common.{◌≡◌, ℕ, ◌≤◌, true, List, [], length, leb, None, refl, ap, subst, ◌∙◌, arith}
use Rattle.std.proofs.lemmas.Bool.{leb-true}
use Rattle.dt_model.specs.declared.tree.Tree.{Tree}
use Rattle.dt_model.specs.Token.{Token}
use Rattle.dt_model.specs.Rule.{first_broken}
use Rattle.dt_model.specs.Canonical.{canonical, blob_saying}
use Rattle.gen_load.specs.Tokens.{IsTreeOf, config_tokens, hardware_tokens}
use Rattle.gen_load.specs.Meant.{generated_config, generated_board}
use Rattle.gen_load.specs.declared.bundle.Bundle.{Bundle}
use Rattle.gen_load.specs.Draws.{count_of, starts_of, order_of}
use Rattle.gen_load.specs.Files.{images_from, images_of, script_of, script_text}
use Rattle.gen_load.specs.Bundle.{largest_blob, IsSmall, SaysConfig, SaysBoard, IsBundleOf}
use Rattle.gen_load.proofs.Drawing.{count-few}
use Rattle.gen_load.proofs.Said.{config-said, rules-said, board-said, hardware-said}
use Rattle.gen_load.proofs.Configs.{config-holds}
use Rattle.gen_load.proofs.Hardwares.{board-holds}

canonical-of : (tokens : List Token) (tree : Tree) → IsTreeOf tokens tree → canonical tree ≡ blob_saying 0 [] tokens
unfolding canonical
canonical-of tokens tree is = λ i. blob_saying (is.boot_cpu i) (is.reserve i) (is.same i)

small : (tokens : List Token) (tree : Tree) → IsTreeOf tokens tree → first_broken [] tokens ≡ None → leb (length (blob_saying 0 [] tokens)) largest_blob ≡ true → IsSmall tree
small tokens tree is whole short = record {
  fits = record {
    few_entries = rw (is.reserve) (omega arith);
    entries = rw (is.reserve) refl;
    tokens = ap (first_broken []) is.same ∙ whole;
  };
  short = rw (canonical-of tokens tree is) (leb-true (length (blob_saying 0 [] tokens)) largest_blob short);
}

config-says : (count : ℕ) → 2 ≤ count → count ≤ 8 → (tree : Tree) → IsTreeOf (config_tokens count) tree → SaysConfig tree (generated_config count)
config-says count some few tree is =
    let holds = config-holds count some few in
    record {
      small = small (config_tokens count) tree is holds.fits holds.short;
      rules = rules-said tree (config_tokens count) is.same ∙ holds.rules;
      meaning = config-said tree (config_tokens count) is.same ∙ holds.meaning;
    }

hardware-says : (count : ℕ) → 2 ≤ count → count ≤ 8 → (tree : Tree) → IsTreeOf (hardware_tokens count) tree → SaysBoard tree (generated_board count)
hardware-says count some few tree is =
    let holds = board-holds count some few in
    record {
      small = small (hardware_tokens count) tree is holds.fits holds.short;
      rules = hardware-said tree (hardware_tokens count) is.same ∙ holds.rules;
      meaning = board-said tree (hardware_tokens count) is.same ∙ holds.meaning;
    }

pub bundle_is : (number count : ℕ) (bundle : Bundle) (starts order : List ℕ) → count ≡ count_of number → IsTreeOf (config_tokens count) bundle.config
    → IsTreeOf (hardware_tokens count) bundle.hardware → bundle.images ≡ images_from 0 starts → starts ≡ starts_of number → bundle.script ≡ script_of order
    → order ≡ order_of number → IsBundleOf number bundle
unfolding images_of script_text
bundle_is number count bundle starts order same config hardware images begins script turns =
    let few = count-few number in
    let low : 2 ≤ count = omega arith in
    let high : count ≤ 8 = omega arith in
    record {
      config = subst (λ (n : ℕ). SaysConfig bundle.config (generated_config n)) same (config-says count low high bundle.config config);
      hardware = subst (λ (n : ℕ). SaysBoard bundle.hardware (generated_board n)) same (hardware-says count low high bundle.hardware hardware);
      images = images ∙ ap (images_from 0) begins;
      script = script ∙ ap script_of turns;
    }
