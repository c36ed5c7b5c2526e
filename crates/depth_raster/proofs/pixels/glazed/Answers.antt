use Rattle.std.proofs.Common.{◌≡◌, ℕ, List, [], true, false, Option, Bool, ap, sym, ◌∙◌, subst, arith, rules}
use Rattle.std.specs.Option.{IfSome}
use Rattle.tri_cover.specs.declared.hit.Hit.{Hit}
use Rattle.tri_cover.specs.Faces.{face_hit, depth_at, colour_at}
use Rattle.tri_cover.specs.Glass.{blend}
use Rattle.tri_cover.specs.Hits.{hit}
use Rattle.depth_raster.specs.Faces.{fragment_by, glazed_by_face, glazed_by_hit}
use Rattle.depth_raster.specs.Looks.{IsSeen}
use Rattle.depth_raster.specs.Marks.{behind_as}
use Rattle.depth_raster.proofs.Deep.{glazed_deep, glazed_seen}
use Rattle.depth_raster.proofs.Depths.{hit_small}
use Rattle.depth_raster.proofs.Readied.{face_hits, face_boxed}
use Rattle.depth_raster.proofs.pixels.glazed.Goals as goal

pub returns-then-not-is_seen-clause-colour : goal.returns-then-not-is_seen-clause-colour
unfolding glazed_by_face fragment_by
returns-then-not-is_seen-clause-colour c = λ lens px py column row ready inside are means.
    let a = c.args in
    let p = a.piece.now in
    let f = a.face.now in
    let boxed = face_boxed lens p f ready c.requires.face px py inside in
    let no : c.is_seen.result ≡ false = search rules in
    let looks = subst (λ (b : Bool). IsSeen f px py c.limit.result b) no (c.is_seen.ensures px py are boxed) in
    let same = face_hits lens p f ready c.requires.face px py column row in
    sym (glazed_deep p.face a.behind.now (hit lens px py [] p.face.tri) a.under
    (λ h hits. omega (arith, looks h (sym same ∙ hits), c.limit.ensures.value))
    (λ h hits. hit_small lens px py [] p.face.tri h hits))

pub returns-clause-colour : goal.returns-clause-colour
unfolding glazed_by_face fragment_by
returns-clause-colour c = λ lens px py column row ready inside are means.
    let a = c.args in
    let p = a.piece.now in
    let f = a.face.now in
    let boxed = face_boxed lens p f ready c.requires.face px py inside in
    let yes : c.is_seen.result ≡ true = search rules in
    let looks = subst (λ (b : Bool). IsSeen f px py c.limit.result b) yes (c.is_seen.ensures px py are boxed) in
    let hits = face_hits lens p f ready c.requires.face px py column row ∙ looks.0 in
    let h : Hit = record { depth = depth_at f px py; colour = colour_at f px py } in
    let shade = subst (λ (o : Option Hit). IfSome o (λ i. c.colour.result ≡ i.colour)) looks.0
    (subst (λ (v : List ℕ). IfSome (face_hit f px py) (λ i. v ≡ i.colour)) (sym c.colour.ensures) (c.settle.ensures.colour f px py means)) in
    c.blend.ensures
    ∙ ap (λ (colour : List ℕ). blend p.face.alpha colour a.under) shade
    ∙ sym (ap (λ (o : Option Hit). glazed_by_hit p.face (behind_as a.behind.now) o a.under) hits ∙ glazed_seen p.face a.behind.now h a.under (omega (arith, looks.1, c.limit.ensures.value)))

pub returns-clause-means : goal.returns-clause-means
returns-clause-means c = λ px py means. c.settle.ensures.kept c.args.face.now px py means
