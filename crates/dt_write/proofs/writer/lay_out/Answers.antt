use Rattle.std.proofs.Common.{◌<◌, [], ◌∷◌, ◌++◌, refl, sym, ap, subst, ◌∙◌}
use Rattle.std.proofs.lemmas.Result.{err_from_is_err_and}
use Rattle.dt_model.specs.Token.{Finish}
use Rattle.dt_model.specs.Node.{node_tokens}
use Rattle.dt_model.specs.Canonical.{most_bytes}
use Rattle.dt_write.specs.Layout.{Laid, with_token, with_tokens, size_of}
use Rattle.dt_write.proofs.Faults.{same_fault}
use Rattle.dt_write.proofs.Laying.{with_tokens-append, still_large}
use Rattle.dt_write.proofs.writer.lay_out.Goals as goal

pub returns-in_err-write_node-clause-too_large : goal.returns-in_err-write_node-clause-too_large
returns-in_err-write_node-clause-too_large c =
    let p = err_from_is_err_and c.from_residual.result c.from_residual.ensures.1 in
    rw (p.1, p.2) (λ is. still_large most_bytes (record { structure = []; names = [] }) (node_tokens c.args.root.now ++ Finish ∷ [])
    (node_tokens c.args.root.now) (Finish ∷ []) refl
    (subst (λ (laid : Laid). most_bytes < size_of (with_tokens laid (node_tokens c.args.root.now))) c.new-layout.ensures (c.in_err-write_node.ensures.too_large (same_fault _ _ is))))

pub returns-in_err-finish-clause-too_large : goal.returns-in_err-finish-clause-too_large
returns-in_err-finish-clause-too_large c =
    let p = err_from_is_err_and c.from_residual-in_err-finish.result c.from_residual-in_err-finish.ensures.1 in
    let laid = c.in_ok-write_node.ensures.laid ∙ ap (λ (l : Laid). with_tokens l (node_tokens c.args.root.now)) c.new-layout.ensures in
    let whole = ap (λ (l : Laid). with_token l Finish) laid
    ∙ sym (with_tokens-append (record { structure = []; names = [] }) (node_tokens c.args.root.now) (Finish ∷ [])) in
    rw (p.1, p.2) (λ is. subst (λ (l : Laid). most_bytes < size_of l) whole (c.in_err-finish.ensures.too_large (same_fault _ _ is)))

pub returns-clause-laid : goal.returns-clause-laid
returns-clause-laid c =
    c.in_ok-finish.ensures.laid
    ∙ ap (λ (l : Laid). with_token l Finish) (c.in_ok-write_node.ensures.laid ∙ ap (λ (l : Laid). with_tokens l (node_tokens c.args.root.now)) c.new-layout.ensures)
    ∙ sym (with_tokens-append (record { structure = []; names = [] }) (node_tokens c.args.root.now) (Finish ∷ []))
