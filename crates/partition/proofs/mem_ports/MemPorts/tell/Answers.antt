use Rattle.std.proofs.Common.{◌≡◌, ◌-◌, List, slice_set, Some, ap, ◌∙◌}
use Rattle.std.proofs.lemmas.List.{get_or_default}
use Rattle.partition.specs.declared.kind.Kind.TheVariants.{Manage}
use Rattle.partition.specs.declared.mem_end.MemEnd.{MemEnd}
use Rattle.partition.specs.MemPorts.{Held, ends_of, sorts_of, mem_end_at, no_end}
use Rattle.partition.specs.Port.{kind_at, told_on}
use Rattle.partition.proofs.Ends.{is_there, ends_told, sorts_told}
use Rattle.partition.proofs.mem_ports.MemPorts.tell.Goals as goal

pub returns-clause-ends : goal.returns-clause-ends
returns-clause-ends c =
    let ends : List MemEnd = c.self.inside.ends.items in
    let same : ends ≡ c.args.self.now.ends = ap (λ (held : Held). held.ends) c.self.view_is in
    let kind : kind_at (sorts_of ends) c.args.h ≡ Some Manage = ap (λ (all : List MemEnd). kind_at (sorts_of all) c.args.h) same ∙ c.requires.manage in
    let there = (is_there ends c.args.h Manage kind).there in
    let here : c.index_mut.result.now ≡ mem_end_at ends c.args.h = c.index_mut.ensures.value ∙ get_or_default ends (c.args.h - 1) c.index_mut.result.now no_end there in
    ap (λ (it : MemEnd). ends_of (slice_set ends (c.args.h - 1) (record it { runs = c.args.runs }))) here
    ∙ (ends_told ends c.args.h c.args.runs there ∙ ap (λ (all : List MemEnd). told_on (ends_of all) c.args.h c.args.runs) same)

pub returns-clause-kinds : goal.returns-clause-kinds
returns-clause-kinds c =
    let ends : List MemEnd = c.self.inside.ends.items in
    let same : ends ≡ c.args.self.now.ends = ap (λ (held : Held). held.ends) c.self.view_is in
    let kind : kind_at (sorts_of ends) c.args.h ≡ Some Manage = ap (λ (all : List MemEnd). kind_at (sorts_of all) c.args.h) same ∙ c.requires.manage in
    let there = (is_there ends c.args.h Manage kind).there in
    let here : c.index_mut.result.now ≡ mem_end_at ends c.args.h = c.index_mut.ensures.value ∙ get_or_default ends (c.args.h - 1) c.index_mut.result.now no_end there in
    ap (λ (it : MemEnd). sorts_of (slice_set ends (c.args.h - 1) (record it { runs = c.args.runs }))) here
    ∙ (sorts_told ends c.args.h c.args.runs there ∙ ap sorts_of same)
