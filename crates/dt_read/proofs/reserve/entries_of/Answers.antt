use Rattle.std.proofs.Common.{◌≡◌, false, [], refl, sym, ◌∙◌}
use Rattle.std.proofs.lemmas.List.{append-nil}
use Rattle.dt_model.specs.Fit.{is_entry}
use Rattle.dt_model.specs.Reserve.{entry_of}
use Rattle.dt_read.proofs.ReserveMaps.{lacks_end-at_end, IsReserveMap-at_end, lacks_end-short, read_more}
use Rattle.dt_read.proofs.reserve.entries_of.Goals as goal

pub returns-then-not-is_entry : goal.returns-then-not-is_entry
returns-then-not-is_entry c =
    let last : is_entry (entry_of c.loop-rest.rest.now) ≡ false = rw (← c.entry_at-entry.ensures) (sym c.if-not-is_entry.ensures) in
    let whole = c.loop-rest.invariant.lacks ∙ lacks_end-at_end _ c.loop-rest.rest.now c.loop-rest-test.true last in (
      rw whole refl,
      record {
        few = c.loop-rest.invariant.few;
        none_ends = c.loop-rest.invariant.all;
        spelled = rw append-nil at (c.loop-rest.invariant.spelled [] (IsReserveMap-at_end c.loop-rest.rest.now c.loop-rest-test.true last));
      },
    )

pub loop-rest-preserved : goal.loop-rest-preserved
loop-rest-preserved c =
    read_more c.args.most c.args.bytes.now c.loop-rest.rest.now _ c.loop-rest.entries.items _ c.entry_at-entry.result c.loop-rest.invariant c.loop-rest-test.true c.entry_at-entry.ensures
    (sym c.if-not-is_entry.ensures) (λ e. c.if-len-most.false (c.len.ensures ∙ c.loop-rest.entries.ok.0 ∙ e)) c.in_ok-push.ensures.items c.split_at.ensures.back

pub returns : goal.returns
returns c = rw (c.loop-rest.invariant.lacks ∙ lacks_end-short _ c.loop-rest.rest.now c.loop-rest-test.false) refl
