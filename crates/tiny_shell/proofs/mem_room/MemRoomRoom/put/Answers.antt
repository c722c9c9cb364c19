use Rattle.std.proofs.Common.{subst, sym}
use Rattle.outside.specs.Contents.{IsFree}
use Rattle.tiny_shell.specs.RoomState.{RoomState}
use Rattle.outside.proofs.Listings.{can_hold-from_free}
use Rattle.tiny_shell.proofs.mem_room.MemRoomRoom.put.Goals as goal

pub put-requires : goal.put-requires
put-requires c =
    let free : IsFree c.args.path.now c.self.inside.folder = subst (λ (room : RoomState). IsFree c.args.path.now room.folder) (sym c.self.view_is) c.requires in
    rw c.in_ok-path.ensures (can_hold-from_free c.args.path.now c.self.inside.folder free)
