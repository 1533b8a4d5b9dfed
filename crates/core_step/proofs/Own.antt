-- The pages of a partition have memory in a larger memory.
use Rattle.std.proofs.Common.{ℕ, ◌<◌, List, length, Option, Some, None, IfSome, sym, ap, subst, arith}
use Rattle.ground.specs.Own.{AreExtents, own_of}
use Rattle.ground.proofs.Theirs.{own_extent, own_length}
use Rattle.core_step.specs.declared.look.Page.{Page}
use Rattle.core_step.specs.Pages.{Lookup, AreBacked, IsBacked}
use Rattle.core_step.specs.Laws.{page_in, IsNamed}

-- a page has memory in the larger memory
page_backed : (names : List ℕ) (memory : List (List ℕ)) (ea : ℕ) (page : Option Page) → AreExtents names memory → IfSome page (IsBacked (own_of names memory) ea)
    → IfSome (page_in names page) (IsBacked memory ea)
page_backed names memory ea None are backed = tt
page_backed names memory ea (Some page) are backed =
    let below : page.extent < length names = omega (arith, backed.exists, own_length names memory) in
    record {
      some_size = backed.some_size;
      most_size = backed.most_size;
      aligned = backed.aligned;
      begins = backed.begins;
      ends = backed.ends;
      logical_end = backed.logical_end;
      exists = are.exist page.extent below;
      within = omega (arith, backed.within, ap length (own_extent names memory page.extent below));
    }

pub stays_backed : (names : List ℕ) (memory : List (List ℕ)) (regions extents : Lookup) → AreExtents names memory → IsNamed names regions extents → AreBacked (own_of names memory) regions
    → AreBacked memory extents
stays_backed names memory regions extents are named backed space pid ea =
    subst (λ p. IfSome p (IsBacked memory ea)) (sym (named.same space pid ea)) (page_backed names memory ea (regions space pid ea) are (backed space pid ea))
