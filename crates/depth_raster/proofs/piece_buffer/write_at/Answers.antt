use Rattle.std.proofs.Common.{◌≡◌, ◌+◌, [], ◌∷◌, ◌++◌, List, length, length-append, take, take_all, refl, ap, sym, ◌∙◌, arith}
use Rattle.std.proofs.lemmas.List.{take_more_set}
use Rattle.depth_raster.specs.declared.pieces.Piece.{Piece}
use Rattle.depth_raster.proofs.piece_buffer.write_at.Goals as goal

pub returns-then-count-len-clause-piece : goal.returns-then-count-len-clause-piece
returns-then-count-len-clause-piece c =
    let p : Piece = record c.index_mut.result.now { face = c.args.face } in
    record {
      piece = p;
      pieces = take_more_set c.args.written.now.items c.args.count p (omega (arith, c.if-count-len.true, c.len.ensures, c.args.written.now.ok.0));
      face = refl;
    }

pub returns-clause-piece : goal.returns-clause-piece
returns-clause-piece c =
    let ps = c.args.written.now.items in
    let n = c.args.count in
    let p = c.bare.result in
    let long : length ps ≡ n = omega (arith, c.if-count-len.false, c.len.ensures, c.args.written.now.ok.0, c.requires.count) in
    let more : length (ps ++ p ∷ []) ≡ n + 1 = length-append ps (p ∷ []) ∙ omega (arith, long) in
    record {
      piece = p;
      pieces =
          ap (take (n + 1)) c.push_reserved.ensures.items
          ∙ take_all (n + 1) (ps ++ p ∷ []) (omega (arith, more))
          ∙ ap (λ (qs : List Piece). qs ++ p ∷ []) (sym (take_all n ps (omega (arith, long))));
      face = c.bare.ensures;
    }
