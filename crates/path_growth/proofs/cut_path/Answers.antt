use Rattle.std.proofs.Common.{ap, ◌∙◌, arith}
use Rattle.path_store.specs.declared.records.PathRecord.{PathRecord}
use Rattle.path_growth.specs.Cut.{cut_at, owner-inside, owner-up-inside, owner-below, cut_inside, cut-whole}
use Rattle.path_growth.proofs.cut_path.Goals as goal

pub at-own-requires : goal.at-own-requires
at-own-requires c =
    let o = rw c.unwrap-owner.ensures at c.cut_owner.ensures in
    owner-inside _ _ _ _ _ c.requires.0 c.requires.1 c.requires.2 o.0

pub at-requires : goal.at-requires
at-requires c =
    let o = rw c.unwrap-owner.ensures at c.cut_owner.ensures in
    owner-up-inside _ _ _ _ _ c.requires.0 c.requires.1 c.requires.2 o.0 _ o.1

pub overflow_sub-chain : goal.overflow_sub-chain
overflow_sub-chain c =
    let o = rw c.unwrap-owner.ensures at c.cut_owner.ensures in
    omega (arith, owner-below _ _ _ _ _ c.requires.0 c.requires.1 c.requires.2 o.0 _ o.1 _ (ap (λ (x : PathRecord). x.edges) c.at.ensures))

pub returns-then-chain-own : goal.returns-then-chain-own
returns-then-chain-own c =
    let o = rw c.unwrap-owner.ensures at c.cut_owner.ensures in
    cut_inside c.args.paths.records.now c.args.k _ _ _ _ o.1 (ap (λ (x : PathRecord). x.edges) c.at.ensures) (ap (λ (x : PathRecord). x.chain) c.at-own.ensures) c.if-chain-own.true
    ∙ ap (λ x. cut_at c.args.paths.records.now c.args.k x) o.0

pub returns : goal.returns
returns c =
    let o = rw c.unwrap-owner.ensures at c.cut_owner.ensures in
    cut-whole c.args.paths.records.now c.args.k _ _ _ _ o.1 (ap (λ (x : PathRecord). x.edges) c.at.ensures) (ap (λ (x : PathRecord). x.chain) c.at-own.ensures) c.if-chain-own.false
    ∙ ap (λ x. cut_at c.args.paths.records.now c.args.k x) o.0
