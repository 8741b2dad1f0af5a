use Rattle.std.proofs.Common.{◌≤◌, ◌/◌, length, take, subst, arith}
use Rattle.std.proofs.lemmas.List.{length-take}
use Rattle.devices.specs.Disks.{Torn, Follows}
use Rattle.devices.specs.MemoryDisks.{Recorded, images_of}
use Rattle.devices.proofs.Insides.{was, same_time, torn}
use Rattle.devices.proofs.memory_disk.MemoryDiskDisk.write_at.Goals as goal

pub returns-then-fails_next-clause-torn : goal.returns-then-fails_next-clause-torn
returns-then-fails_next-clause-torn c =
    let bytes = c.args.bytes.now in
    let front : length (take (length bytes / 2) bytes) ≤ length bytes = omega (arith, length-take (length bytes / 2) bytes) in
    torn c.write.result c.args.at (length bytes) (take (length bytes / 2) bytes) c.args.self.now.recorded c.self.inside.recording c.write.new.self
    (was c.self.view_is) c.requires.begins front c.write.ensures.written c.write.ensures.same

pub returns-then-fails_next-clause-images : goal.returns-then-fails_next-clause-images
returns-then-fails_next-clause-images c =
    subst (λ (old : Recorded). Follows (Torn c.args.at (length c.args.bytes.now)) (images_of old) (images_of c.write.new.self)) (was c.self.view_is) c.write.ensures.images

pub returns-then-fails_next-clause-time : goal.returns-then-fails_next-clause-time
returns-then-fails_next-clause-time c = same_time c.args.self.now.recorded c.self.inside.recording c.write.new.self (was c.self.view_is) c.write.ensures.time

pub returns-then-not-write-clause-torn : goal.returns-then-not-write-clause-torn
returns-then-not-write-clause-torn c =
    let bytes = c.args.bytes.now in
    let front : length bytes ≤ length bytes = omega arith in
    torn c.write-2.result c.args.at (length bytes) bytes c.args.self.now.recorded c.self.inside.recording c.write-2.new.self
    (was c.self.view_is) c.requires.begins front c.write-2.ensures.written c.write-2.ensures.same

pub returns-then-not-write-clause-images : goal.returns-then-not-write-clause-images
returns-then-not-write-clause-images c =
    subst (λ (old : Recorded). Follows (Torn c.args.at (length c.args.bytes.now)) (images_of old) (images_of c.write-2.new.self)) (was c.self.view_is) c.write-2.ensures.images

pub returns-then-not-write-clause-time : goal.returns-then-not-write-clause-time
returns-then-not-write-clause-time c = same_time c.args.self.now.recorded c.self.inside.recording c.write-2.new.self (was c.self.view_is) c.write-2.ensures.time

pub returns-clause-images : goal.returns-clause-images
returns-clause-images c =
    subst (λ (old : Recorded). Follows (Torn c.args.at (length c.args.bytes.now)) (images_of old) (images_of c.write-2.new.self)) (was c.self.view_is) c.write-2.ensures.images

pub returns-clause-time : goal.returns-clause-time
returns-clause-time c = same_time c.args.self.now.recorded c.self.inside.recording c.write-2.new.self (was c.self.view_is) c.write-2.ensures.time
