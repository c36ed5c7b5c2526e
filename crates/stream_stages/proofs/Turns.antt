-- What the stages of the stream leave as it was at a poll.
use Rattle.std.proofs.Common.{Option, Some, None, refl}
use Rattle.std.specs.Prelude.{MatchOption}
use Rattle.stage_parts.specs.declared.packets.Packet.{Packet}
use Rattle.stream_stages.specs.Cuts.{Cut}
use Rattle.stream_stages.specs.declared.sending.Sending.{Sending}
use Rattle.stream_stages.specs.declared.drawing.Drawing.{Drawing}
use Rattle.stream_stages.specs.Links.{Streamed}
use Rattle.stream_stages.specs.CullParts.{StreamCullState, CullsInTurn}
use Rattle.stream_stages.specs.DrawParts.{StreamDrawState, DrawsInTurn}

culls_each : (P Q R S : Type 0) → P → Q → R → S → (held : Option Packet) (piece : Option Cut) (frame : Option Sending) →
    MatchOption held (MatchOption piece (MatchOption frame P (λ _. Q)) (λ _. R)) (λ _. S)
culls_each P Q R S p q r s (Some h) piece frame = s
culls_each P Q R S p q r s None (Some x) frame = r
culls_each P Q R S p q r s None None (Some f) = q
culls_each P Q R S p q r s None None None = p

-- a cull that does nothing
pub culls_still : (c : Streamed StreamCullState) → CullsInTurn c c
culls_still c = culls_each _ _ _ _ refl refl refl refl c.state.held c.state.piece c.state.frame

draws_each : (P Q R S : Type 0) → P → Q → R → S → (spent : Option Cut) (held : Option Packet) (frame : Option Drawing) →
    MatchOption spent (MatchOption held (MatchOption frame P (λ _. Q)) (λ _. R)) (λ _. S)
draws_each P Q R S p q r s (Some x) held frame = s
draws_each P Q R S p q r s None (Some h) frame = r
draws_each P Q R S p q r s None None (Some f) = q
draws_each P Q R S p q r s None None None = p

-- a draw that does nothing
pub draws_still : (d : Streamed StreamDrawState) → DrawsInTurn d d
draws_still d = draws_each _ _ _ _ refl refl refl refl d.state.spent d.state.held d.state.frame
