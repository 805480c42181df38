use Rattle.std.proofs.Common.{refl}
use Rattle.capture_generator.proofs.Gained.{gains_packet, three_behind}
use Rattle.capture_generator.proofs.written.Written.push.Goals as goal

pub returns-in_ok-extend_from_slice : goal.returns-in_ok-extend_from_slice
returns-in_ok-extend_from_slice c =
    gains_packet c.args.self.now _ c.args.packet.now c.if-self.true refl refl
    (three_behind _ _ _ _ _ _ _ c.in_ok-push_time.ensures c.in_ok-push_lengths.ensures c.in_ok-extend_from_slice.ensures.items)
