-- `path_extensions::process_vertex` meets its contract.
use Rattle.out_edges.specs.Walked.{over-named, turned}
use Rattle.path_extensions.specs.Vertex.{outs-named, outs-slots, vertex-none, first-low, alone-stands, vertex-alone, vertex-fork}
use Rattle.std.proofs.Common.{arith}
use Rattle.path_extensions.proofs.process_vertex.Goals as goal

pub out_edges-outs-requires : goal.out_edges-outs-requires
out_edges-outs-requires c = outs-named c.requires

pub next-requires : goal.next-requires
next-requires c = over-named c.out_edges-outs.ensures.over (outs-named c.requires)

pub returns-in_default : goal.returns-in_default
returns-in_default c =
    let f = turned (outs-slots c.requires) c.out_edges-outs.ensures.over c.in_default.ensures.steps in
    vertex-none c.requires (rw c.out_edges-outs.ensures.first at f.next)

pub overflow_cast-first : goal.overflow_cast-first
overflow_cast-first c =
    let f = turned (outs-slots c.requires) c.out_edges-outs.ensures.over c.in-Some.ensures.steps in
    let h = first-low c.requires (rw c.out_edges-outs.ensures.first at f.next) in
    omega arith

pub extend_by_only_edge-requires : goal.extend_by_only_edge-requires
extend_by_only_edge-requires c =
    let f = turned (outs-slots c.requires) c.out_edges-outs.ensures.over c.in-Some.ensures.steps in
    alone-stands c.requires (rw c.out_edges-outs.ensures.first at f.next)

pub returns-then-is_none : goal.returns-then-is_none
returns-then-is_none c =
    let f = turned (outs-slots c.requires) c.out_edges-outs.ensures.over c.in-Some.ensures.steps in
    let s = turned (outs-slots c.requires) f.over c.next-2.ensures.steps in
    vertex-alone c.requires (rw c.out_edges-outs.ensures.first at f.next) f.behind s.next c.if-is_none.ensures c.extend_by_only_edge.ensures

pub returns : goal.returns
returns c =
    let f = turned (outs-slots c.requires) c.out_edges-outs.ensures.over c.in-Some.ensures.steps in
    let s = turned (outs-slots c.requires) f.over c.next-2.ensures.steps in
    vertex-fork c.requires (rw c.out_edges-outs.ensures.first at f.next) f.behind c.list_offers-rows.ensures s.next c.if-is_none.ensures c.extend_by_offers.ensures
