mod Ticked
