-- What is out after the arrays came home.
use Rattle.std.proofs.Common.{◌≡◌, ℕ, ◌-◌, subst}
use Rattle.cycle_buffer.specs.Cycles.{written_at, out_at}
use Rattle.pf_scene.specs.Worlds.{WorldState}
use Rattle.pf_scene.specs.Counts.{fitting_in_all}
use Rattle.pf_scene.proofs.world.World.sync.Goals as goal

pub returns-clause-out : goal.returns-clause-out
returns-clause-out c =
    subst (λ (w : WorldState). (s : ℕ) → out_at c.take_all_home.new.cycles s
    ≡ out_at w.cycles s - fitting_in_all (written_at w.cycles s) s c.args.home.now.items) c.self.view_is c.take_all_home.ensures.out
